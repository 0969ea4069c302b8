use Rattle.std.proofs.Common.{refl}
use Rattle.assembler.proofs.{Assemblies.listed-made, Listings.lists-instructions, Listings.words-made, Loadables.profile-made}
use Rattle.assembler.proofs.laws.assembled_is_listed.Goals as goal

pub returns : goal.returns
returns c = record {
  profile = λ source image listing a. profile-made source a.lines image listing a.made;
  listed = λ source image listing a. listed-made source a.lines image listing a.made;
  words = λ source image listing a. words-made source a.lines image listing a.text a.made;
  meant = λ source image listing a. lists-instructions source source a.lines image listing refl a.text c.one_reading.ensures.lines a.made;
}
