-- By the lemmas.
use Rattle.kernel.proofs.KnownLoans.{given-known, again-known, lends-stay, again-stays, applies-stay, settles-stay}
use Rattle.kernel.proofs.known.known_loans_stay.Goals as goal

pub returns : goal.returns
returns c = record {
  given = given-known;
  given_again = again-known;
  lends = lends-stay;
  lends_again = again-stays;
  applies = applies-stay c.lent_processes_stay.ensures;
  settles = settles-stay c.lent_processes_stay.ensures;
}
