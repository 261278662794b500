-- What is true of the desk after any visits that it allows: the reference's own statement.
pub use Rattle.moka_hist.specs.SoundDesk.{SoundDesk}
