-- One that has answered is over.
use Rattle.moka_kept.proofs.entered.Entered.of.Goals as goal

pub end-requires : goal.end-requires
end-requires g c = c.requires.over c.in-Answers.answer c.in-Answers.is
