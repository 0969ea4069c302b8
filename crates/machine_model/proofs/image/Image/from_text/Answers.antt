-- A program of words meets the profile.
use Rattle.machine_model.proofs.Words.{IsProfile-segments}
use Rattle.std.proofs.Common.{ℕ, List, ◌++◌, ap, ◌∙◌}
use Rattle.machine_model.specs.Images.{bytes_of_words}
use Rattle.machine_model.proofs.image.Image.from_text.Goals as goal

pub new-requires-2 : goal.new-requires-2
new-requires-2 c = IsProfile-segments c.args.words.now c.new.result c.in_ok-segments.segments.items c.in_ok-segments.ensures.items (c.new.ensures ∙ c.in_ok-put_words.ensures ∙ ap (λ (bytes : List ℕ). bytes ++ bytes_of_words c.args.words.now) c.new-bytes.ensures.items) c.requires.some c.requires.fits
