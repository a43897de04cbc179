-- Asks of applications, and ends of disk commands, at a client of the third form, are changes.
use Rattle.st_lemmas.proofs.Words
use Words.{◌≡◌, ℕ, ◌==◌, Bool, true, false, List, Option, Some, None, refl, sym, ap, ◌∙◌, subst, if◌then◌else◌, eq-eqb, eqb-true, option_map, unwrap_or}
use Words.{Ask, IoKind, PageCommand, Stamp, Tag}
use Words.answers
use Words.ends
use Words.io
use Words.Client as cl
use Words.ClientPages as pages
use Words.ClientState.{Turn}
use Words.Truth.{not_both}
use Words.Versions.{command_number}
use Rattle.st_laws_steps.specs.Client.Client as client
use Rattle.st_laws_steps.specs.Client.Losses.{IsOutdated, Hardens, Passes, Unknown, without}
use Rattle.st_laws_steps.proofs.Client.Losing.{failed_ends, is_done}
use Rattle.st_third.specs.Client as third
use Rattle.st_third.specs.State.{ThirdTurn, answer_with_leaves, plainly}
use Rattle.st_laws_third.specs.Changes.{HeardFailure, ThirdChanges, ThirdFinishes, Still, heard_end, with_plain}
use Rattle.st_laws_third.proofs.Chains.{as_plain, by_rule, fault_with_leaves, newest_few, old_answers, old_one, old_takes}

pub takes : (now : Stamp) (op : ℕ) (ask : Ask) (t : ThirdTurn) → ThirdChanges None now t (third.take_plainly op ask t)
takes now op ask t = by_rule t (cl.take_ask op ask) (old_takes op ask t.plain)

module _ (now : Stamp) (number : ℕ) (t : ThirdTurn) where
  abbrev F : Bool → ThirdTurn → Type 0
  F ok u = ThirdFinishes now number ok t u

  -- nothing happens
  same : (ok : Bool) → F ok t
  same ok = record { middle = t.plain; ends = Unknown; rest = Still t }

  module _ (c : PageCommand) (block : Option (Tag × List ℕ)) (e : pages.command_of t.plain.here.store.commands number ≡ Some c) where
    abbrev version : ℕ
    version = pages.version_of t.plain.here.store.pages c.ino c.page

    -- without the command
    abbrev u : Turn
    u = without number t.plain

    -- the pages stay as they were
    stay : (ok : Bool) (v : ThirdTurn) → IsOutdated t.plain c → ThirdChanges (heard_end number ok) now (with_plain u t) v → F ok v
    stay ok v o cs = record { middle = u; ends = Passes c e o; rest = cs }

    -- the command that ends is the one that was found
    its_number : c.number ≡ number
    its_number = command_number t.plain.here.store.commands number c e

    a_read : c.kind ≡ io.Read → IsOutdated t.plain c
    a_read k v d q = absurd (no (sym k ∙ q))
      where
        no : io.Read ≡ io.Write v → ⊥
        no z = cc

    an_old_write : (v : ℕ) → c.kind ≡ io.Write v → (v == version) ≡ false → IsOutdated t.plain c
    an_old_write v k f w d q i r =
        not_both (v == version)
        (eq-eqb v version (same v w (sym k ∙ q) ∙ sym r ∙ sym (ap (λ o. unwrap_or (option_map pages.version_of_dirty o) 0) i))) f
      where
        same : (v w : ℕ) → io.Write v ≡ io.Write w → v ≡ w
        same v w z = cc

    fills : (ok : Bool) → c.kind ≡ io.Read → (b : Option (Tag × List ℕ)) → F ok (plainly (third.finished c b ends.Filled) (with_plain u t))
    unfolding plainly cl.finish_as cl.filled_by pages.fill
    fills ok k None = stay ok _ (a_read k) (Still (with_plain u t))
    fills ok k (Some b) =
        stay ok _ (a_read k)
        (as_plain (with_plain u t) _ (old_one (client.Caches u _) (newest_few u.here.store.pages.most_clean _ u.here.store.pages.clean)))

    writes : (v : ℕ) → c.kind ≡ io.Write v → (b : Bool) → (v == version) ≡ b →
        F true (third.finish_as (with_plain u t) c block (if b then ends.Hard else ends.Redirty))
    unfolding third.finish_as plainly cl.finish_as
    writes v k true f = record { middle = cl.hardened u c; ends = Hardens c v e refl k (sym (eqb-true v version f)); rest = Still _ }
    writes v k false f = stay true _ (an_old_write v k f) (Still (with_plain u t))

    fails : (k : IoKind) → c.kind ≡ k → F false (third.failed_as (with_plain u t) c k)
    unfolding third.failed_as plainly cl.failed_as
    fails io.Read k =
        stay false _ (a_read k)
        (by_rule (with_plain u t) (third.read_failed c)
        (old_answers (cl.waits_for_read u c) (answers.DiskFault c.number) u (ap (λ n. Some (HeardFailure n)) (sym its_number))))
    fails (io.Write v) k =
        record {
          middle = cl.mark_failed u c v;
          ends = failed_ends number t.plain c v e k;
          rest =
              subst (λ n. ThirdChanges (Some (HeardFailure n)) now (with_plain (cl.mark_failed u c v) t)
              (answer_with_leaves (cl.waits_for_write u c) (answers.DiskFault c.number) (with_plain (cl.mark_failed u c v) t))) its_number
              (fault_with_leaves (cl.waits_for_write u c) c.number (with_plain (cl.mark_failed u c v) t));
        }

    done : (k : IoKind) → c.kind ≡ k → F true (third.finish_as (with_plain u t) c block (pages.done_as k version))
    unfolding third.finish_as
    done io.Read k = fills true k block
    done (io.Write v) k = writes v k (v == version) refl

    -- done, or failed
    ends_as : (ok : Bool) → F ok (third.finish_as (with_plain u t) c block (pages.ended_as c ok version))
    unfolding third.finish_as
    ends_as true = done c.kind refl
    ends_as false = fails c.kind refl

    -- done or failed, as the command says
    command_ends : (ok : Bool) → F ok (third.finish_command t c ok block)
    unfolding third.finish_command pages.end_command pages.end_at plainly
    command_ends ok =
        subst (λ m. F ok (third.ended_by t c block (pages.end_at t.plain.here.store.commands m ok version (pages.command_of t.plain.here.store.commands m)))) (sym its_number)
        (subst (λ o. F ok (third.ended_by t c block (pages.end_at t.plain.here.store.commands number ok version o))) (sym e)
        (ends_as ok))

  pub finishes : (result : Option (Option (Tag × List ℕ))) → F (is_done result) (third.finish number result t)
  unfolding third.finish third.finish_at third.finish_by third.done_by
  finishes result = go (pages.command_of t.plain.here.store.commands number) refl result
    where
      go : (o : Option PageCommand) → pages.command_of t.plain.here.store.commands number ≡ o → (r : Option (Option (Tag × List ℕ))) →
          F (is_done r) (third.finish_at t o r)
      go None e r = same (is_done r)
      go (Some c) e None = command_ends c None e false
      go (Some c) e (Some block) = at (cl.is_result_of c.kind block)
        where
          at : (b : Bool) → F true (if b then third.finish_command t c true block else t)
          at true = command_ends c block e true
          at false = same true
