use Rattle.moka_history.proofs.Linking.{link_adds_by}
use Rattle.moka_history.proofs.changing.link_adds_array.Goals as goal

pub returns : goal.returns
returns g c = record {
  adds = λ s ticket segment grown keys behind note is made. link_adds_by _ s ticket segment grown keys behind made note is;
}
