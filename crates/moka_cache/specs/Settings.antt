-- What a cache was built with.
use Rattle.std.specs.Prelude.{ℕ, Bool, false, List, Option, None, is_some}
use Rattle.std.specs.Arc.{arc_value}
use Rattle.std.specs.Option.{option_map}
use Rattle.std.specs.String.{string_bytes}
use Rattle.moka_hist.specs.declared.rules.Rules.{Rules}
use Rattle.moka_cache.specs.declared.builder.CacheBuilder.{CacheBuilder}
use Rattle.moka_cache.specs.declared.cache.Cache.{Cache}

module _ {K V E L S P H : Type 0} where
  -- the rules of the cache
  abbrev pub rules_of : Cache K V E L S P H → Rules
  rules_of cache = (arc_value cache.shared).guarded.rules

  -- its name, as bytes
  abbrev pub name_of : Cache K V E L S P H → Option (List ℕ)
  name_of cache = option_map string_bytes (arc_value cache.shared).name

  -- its listener, if it has one
  abbrev pub listener_of : Cache K V E L S P H → Option L
  listener_of cache = (arc_value cache.shared).listener

  -- what makes its hashers
  abbrev pub hasher_of : Cache K V E L S P H → S
  hasher_of cache = (arc_value cache.shared).hasher

-- the rules that a builder is to build a cache of: what was set, and a listener if there is one
abbrev pub rules_asked : {K V E L P : Type 0} → CacheBuilder K V E L P → Rules
rules_asked builder = record {
  max_capacity = builder.max_capacity;
  time_to_live = builder.time_to_live;
  time_to_idle = builder.time_to_idle;
  listener = is_some builder.listener;
  closures = false;
}

-- rules of this capacity, with a listener or without, and of nothing else
abbrev pub rules_with : Option ℕ → Bool → Rules
rules_with most heard = record {
  max_capacity = most;
  time_to_live = None;
  time_to_idle = None;
  listener = heard;
  closures = false;
}
