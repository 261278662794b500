-- What a caller is told of an error of a cache.
use Rattle.std.specs.declared.io.ErrorKind.{ErrorKind}
use Rattle.std.specs.declared.io.ErrorKind.TheVariants as kind
use Rattle.moka_hist.specs.declared.build_error.BuildError as refused
use Rattle.moka_hist.specs.declared.build_error.BuildError.TheVariants as refusal
use Rattle.moka_cache.specs.declared.errors.BuildError.{BuildError}
use Rattle.moka_cache.specs.declared.errors.BuildError.TheVariants as unbuilt
use Rattle.moka_cache.specs.declared.errors.PollError.{PollError}
use Rattle.moka_cache.specs.declared.errors.PollError.TheVariants as error

-- the error of a builder whose rules are refused so
abbrev pub refused_by : refused.BuildError → BuildError
refused_by refusal.TimeToLiveTooLong = unbuilt.TimeToLiveTooLong
refused_by refusal.TimeToIdleTooLong = unbuilt.TimeToIdleTooLong
refused_by refusal.Memory = unbuilt.Memory

-- the kind of the `io::Error` that stands for it
abbrev pub build_kind_of : BuildError → ErrorKind
build_kind_of unbuilt.TimeToLiveTooLong = kind.InvalidInput
build_kind_of unbuilt.TimeToIdleTooLong = kind.InvalidInput
build_kind_of unbuilt.Memory = kind.OutOfMemory

-- the kind of the `io::Error` that stands for an error of a poll
abbrev pub kind_of : PollError → ErrorKind
kind_of error.CallsSpent = kind.Other
kind_of error.Memory = kind.OutOfMemory
