use Rattle.st_lemmas.proofs.Words
use Words.{◌∷◌, ◌==◌, List, ℕ, ap, refl, subst, sym, ◌∙◌, not, AllByRecursion, list_any}
use Rattle.st_snap.specs.Changes.{Forgot}
use Rattle.st_snap.specs.Volumes.{AreRising, IsAfter, IsHeld, IsSwept, IsTaken}
use Rattle.st_snap.proofs.Invariant.{held_left}
use Rattle.st_snap.proofs.KeptViews.{forgot}
use Rattle.st_snap.proofs.Lists.{all_filter, rising_filter}
use Rattle.st_snap.proofs.Rules.{forgets, refused_forget}
use Rattle.st_snap.proofs.volume.Volume.forget.Goals as goal

pub returns-then-not-is_kept-clause-told : goal.returns-then-not-is_kept-clause-told
returns-then-not-is_kept-clause-told c =
    rw (← c.self.view_is)
    (λ blocks changes a. (refused_forget blocks changes _ a c.args.image (ap (list_any (λ other. c.args.image == other)) (sym c.as_slice.ensures.value) ∙ sym c.is_kept.ensures ∙ c.if-not-is_kept.true), refl))

pub sweep-requires-clause-rising : goal.sweep-requires-clause-rising
sweep-requires-clause-rising c =
    subst AreRising (sym (c.as_slice-2.ensures.value ∙ c.drop_image.ensures)) (rising_filter (λ other. not (c.args.image == other)) c.self.inside.kept.items c.self.invariant.rising)

pub sweep-requires-clause-taken : goal.sweep-requires-clause-taken
sweep-requires-clause-taken c =
    subst (AllByRecursion (IsTaken c.self.inside.next)) (sym (c.as_slice-2.ensures.value ∙ c.drop_image.ensures))
    (all_filter (IsTaken c.self.inside.next) (λ other. not (c.args.image == other)) c.self.inside.kept.items c.self.invariant.taken)

pub invariant_of-self : goal.invariant_of-self
invariant_of-self c =
    subst (λ (l : List ℕ). IsHeld (record { versions = c.sweep.new.versions; kept = l; next = c.self.inside.next })) (sym c.drop_image.ensures)
    (held_left (record { versions = c.self.inside.versions; kept = c.self.inside.kept.items; next = c.self.inside.next }) c.self.invariant (λ other. not (c.args.image == other)) c.sweep.new.versions c.sweep.ensures.left)

pub returns-clause-told : goal.returns-clause-told
returns-clause-told c =
    rw (← c.self.view_is)
    (λ blocks changes a. (
      Forgot c.args.image ∷ changes,
      (
        forgets blocks changes (record { versions = c.self.inside.versions; kept = c.self.inside.kept.items; next = c.self.inside.next }) a c.args.image
            (ap (list_any (λ other. c.args.image == other)) (sym c.as_slice.ensures.value) ∙ sym c.is_kept.ensures ∙ c.if-not-is_kept.false),
        subst (λ (l : List ℕ). IsAfter blocks (Forgot c.args.image ∷ changes) (record { versions = c.sweep.new.versions; kept = l; next = c.self.inside.next })) (sym c.drop_image.ensures)
            (forgot blocks changes (record { versions = c.self.inside.versions; kept = c.self.inside.kept.items; next = c.self.inside.next }) c.self.invariant a c.args.image c.sweep.new.versions
            (subst (λ (l : List ℕ). IsSwept c.self.inside.versions c.sweep.new.versions l c.self.inside.next) (c.as_slice-2.ensures.value ∙ c.drop_image.ensures) c.sweep.ensures)),
      ),
    ))
