use Rattle.mls_wording.proofs.NamePlaces.{numbers_apart}
use Rattle.mls_wording.proofs.theorems.numbers_have_their_texts.Goals as goal

pub returns : goal.returns
returns c = record {
  subjects = λ names s t has. numbers_apart names.subjects has.subjects s t;
  objects = λ names o p has. numbers_apart names.objects has.objects o p;
}
