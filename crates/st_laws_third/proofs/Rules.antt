-- Every rule of a client of the third form, at one server, is a list of small changes.
use Rattle.st_lemmas.proofs.Words
use Words.{ℕ, List, Option, Some, None, is_some, Stamp, Tag}
use Rattle.st_third.specs.Client.{finish}
use Rattle.st_third.specs.State.{ThirdTurn}
use Rattle.st_laws_third.specs.Changes.{ThirdFinishes}
use Rattle.st_laws_third.specs.Rules.{RulesAreChanges}
use Rattle.st_laws_third.proofs.Finishing.{finishes, takes}
use Rattle.st_laws_third.proofs.Leaving.{loses, takes_leave}
use Rattle.st_laws_third.proofs.Passing.{passes_change}
use Rattle.st_laws_third.proofs.Receiving.{receives}

pub rules_are_changes : RulesAreChanges
rules_are_changes =
    record {
      losses = λ now t. loses t;
      asks = takes;
      leaves = λ now op t. takes_leave op t;
      messages = receives;
      ends = ends;
      passes = passes_change;
    }
  where
    ends : (now : Stamp) (number : ℕ) (result : Option (Option (Tag × List ℕ))) (t : ThirdTurn) →
        ThirdFinishes now number (is_some result) t (finish number result t)
    ends now number None t = finishes now number t None
    ends now number (Some block) t = finishes now number t (Some block)
