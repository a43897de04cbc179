use Rattle.st_lemmas.proofs.Words
use Words.{◌∷◌, ◌+◌, ℕ, List, refl, arith, subst, sym}
use Rattle.st_snap.specs.Changes.{Took}
use Rattle.st_snap.specs.Volumes.{IsAfter, IsHeld}
use Rattle.st_snap.proofs.KeptViews.{took}
use Rattle.st_snap.proofs.Invariant.{held_taken}
use Rattle.st_snap.proofs.Rules.{refused_take, taken}
use Rattle.st_snap.proofs.volume.Volume.take.Goals as goal

pub returns-then-len-ge-MOST_IMAGES : goal.returns-then-len-ge-MOST_IMAGES
returns-then-len-ge-MOST_IMAGES c =
    rw (← c.self.view_is) (λ blocks changes a. (refused_take blocks changes _ a (omega (arith, c.len.ensures, c.if-len-ge-MOST_IMAGES.true)), refl))

pub invariant_of-self-2 : goal.invariant_of-self-2
invariant_of-self-2 c =
    subst (λ (l : List ℕ). IsHeld (record { versions = c.self.inside.versions; kept = l; next = c.self.inside.next + 1 })) (sym c.in_ok-push.ensures.items)
    (held_taken (record { versions = c.self.inside.versions; kept = c.self.inside.kept.items; next = c.self.inside.next }) c.self.invariant (omega (arith, c.len.ensures, c.if-len-ge-MOST_IMAGES.false))
    (first_of (omega (arith, c.if-self.false, c.self.invariant.fits), grind (arith, c.if-self.false, c.self.invariant.fits))))

pub returns : goal.returns
returns c =
    rw (← c.self.view_is)
    (λ blocks changes a. (
      Took ∷ changes,
      (
        taken blocks changes (record { versions = c.self.inside.versions; kept = c.self.inside.kept.items; next = c.self.inside.next }) a (omega (arith, c.len.ensures, c.if-len-ge-MOST_IMAGES.false)),
        subst (λ (l : List ℕ). IsAfter blocks (Took ∷ changes) (record { versions = c.self.inside.versions; kept = l; next = c.self.inside.next + 1 })) (sym c.in_ok-push.ensures.items)
            (took blocks changes (record { versions = c.self.inside.versions; kept = c.self.inside.kept.items; next = c.self.inside.next }) c.self.invariant a),
      ),
    ))
