-- Changes by rules of a client that submit nothing.
use Rattle.st_lemmas.proofs.Words
use Words.{◌≡◌, ◌⊎◌, Bool, List, [], ◌∷◌, ◌++◌, refl, sym, ap, ◌∙◌, subst, inl, inr, map, Stamp, AppAnswer, Output, Operation, append_assoc}
use Words.outputs
use Words.ClientState.{Turn, answer_to, say}
use Words.Lists.{Has}
use Words.Tables.{has_append}
use Words.Lengths.{nothing_after}
use Rattle.st_laws_steps.specs.Client.Client as client
use Rattle.st_laws_steps.specs.Client.Client.{Plain}
use Rattle.st_laws_steps.proofs.Client.Calm.{IsCalm}
use Rattle.st_laws_steps.proofs.Client.Only.{Only, Ends, Goes}
use Rattle.st_laws_extents.specs.Samples.SubmittedReads as submitted
use Rattle.st_laws_extents.specs.Samples.SubmittedReads.{SubmitsNone}

abbrev Changes : Stamp → Turn → Turn → Type 0
Changes now t u = submitted.Calm now t u

abbrev Change : Stamp → Turn → Turn → Type 0
Change now t u = submitted.Calm now t u

pub none_said : SubmitsNone []
none_said n at what i = absurd i

pub plain_none : (o : Output) → Plain o → SubmitsNone (o ∷ [])
plain_none o p n at what (inr i) = absurd i
plain_none o p n at what (inl e) = subst Plain (sym e) p

pub answers_none : (a : AppAnswer) (os : List Operation) → SubmitsNone (map (answer_to a) os)
answers_none a [] n at what i = absurd i
answers_none a (o ∷ os) n at what (inl e) = no e
  where
    no : outputs.Submit n at what ≡ answer_to a o → ⊥
    no z = cc
answers_none a (o ∷ os) n at what (inr i) = answers_none a os n at what i

pub both_none : (os ps : List Output) → SubmitsNone os → SubmitsNone ps → SubmitsNone (os ++ ps)
both_none os ps a b n at what i = go (has_append os ps (outputs.Submit n at what) i)
  where
    go : Has (outputs.Submit n at what) os ⊎ Has (outputs.Submit n at what) ps → ⊥
    go (inl j) = a n at what j
    go (inr j) = b n at what j

kept : (now : Stamp) (t u : Turn) (more : List Output) → u.out ≡ t.out ++ more → u.next_command ≡ t.next_command → u.here.store.commands ≡ t.here.store.commands → SubmitsNone more → Changes now t u
kept now t u more o n c f = record { more = more; out = o; none = f; next = n; fewer = λ pc i. subst (Has pc) c i }

still : {now : Stamp} (t : Turn) → Changes now t t
still {now} t = kept now t t [] (nothing_after t.out) refl refl none_said

pub both_of : (now : Stamp) (t u v : Turn) → Changes now t u → Changes now u v → Changes now t v
both_of now t u v a b =
    record {
      more = a.more ++ b.more;
      out = b.out ∙ ap (λ os. os ++ b.more) a.out ∙ append_assoc t.out a.more b.more;
      none = both_none a.more b.more a.none b.none;
      next = b.next ∙ a.next;
      fewer = λ pc i. a.fewer pc (b.fewer pc i);
    }

-- Each change that is calm, and such changes.
change_calm : (receives : Bool) (now : Stamp) (t u : Turn) (c : client.Change now t u) → IsCalm receives now t u c → submitted.Calm now t u
change_calm receives now t _ (client.Says _ o p) q = kept now t (say t o) (o ∷ []) refl refl refl (plain_none o p)
change_calm receives now t _ (client.Operates _ os) q = kept now t _ [] (nothing_after t.out) refl refl none_said
change_calm receives now t _ (client.Answers _ os ops a) q = kept now t _ (map (answer_to a) ops) refl refl refl (answers_none a ops)
change_calm receives now t _ (client.Greets _ g) q = kept now t _ [] (nothing_after t.out) refl refl none_said
change_calm receives now t _ (client.TellsLost _ lost) q = kept now t _ [] (nothing_after t.out) refl refl none_said
change_calm receives now t _ (client.Begins _ s a b c) q = kept now t _ [] (nothing_after t.out) refl refl none_said
change_calm receives now t _ (client.Follows _ s u e g) q = kept now t _ [] (nothing_after t.out) refl refl none_said
change_calm receives now t _ (client.Learns _ e a b) q = kept now t _ [] (nothing_after t.out) refl refl none_said
change_calm receives now t _ (client.Forgets _ ino p i) q = absurd q
change_calm receives now t _ (client.Caches _ clean) q = kept now t _ [] (nothing_after t.out) refl refl none_said
change_calm receives now t _ (client.Writes _ s f p bytes n se sv own m h) q = absurd q
change_calm receives now t _ (client.Reads _ ino p m i clean) q = absurd q
change_calm receives now t _ (client.Submits _ s ino p d m se e i w) q = absurd q

pub changes_calm : (receives : Bool) (now : Stamp) (t u : Turn) → Only (IsCalm receives) now t u → submitted.Calm now t u
changes_calm receives now t _ (Ends _) = still {now = now} t
changes_calm receives now t v (Goes _ u _ c q r) = both_of now t u v (change_calm receives now t u c q) (changes_calm receives now u v r)
