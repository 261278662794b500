-- The key that a call is handed.
use Rattle.moka_cache.specs.declared.key.CallKey.{CallKey}
use Rattle.moka_cache.specs.declared.key.CallKey.TheVariants as handed

-- the key, whether it is the call's own or lent to it
abbrev pub key_of : {K : Type 0} → CallKey K → K
key_of (handed.Owned key) = key
key_of (handed.Lent key) = key.now
