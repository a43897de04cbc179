-- An entry that is gone, of a present life: its lease is over.
use Rattle.st_lemmas.proofs.Words
use Words.{◌≡◌, ◌≤◌, ◌⊎◌, ℕ, zero, suc, true, false, List, [], ◌∷◌, Option, Some, None, refl, sym, ap, ◌∙◌, subst, inl, inr, arith}
use Words.{find, le-leb, option_map, slice_get, Life, Stamp, LeaseLife, LogEntry, LogOwner}
use Words.nodes
use Words.Client as cl
use Words.ClientLease as lease
use Words.ClientState.{ClientSession, is_at}
use Words.FlatLog as log
use Words.Lookups.{some_is}
use Words.World as world
use Words.World.{World, clock_of, ended_of}
use Rattle.st_rules.specs.ClientLease.{end_at}
use Rattle.st_laws_steps.specs.Client.Losses.{is_ended}
use Rattle.st_laws_pages.specs.Disks.Obligations.{FatesHold}
use Rattle.st_laws_pages.specs.Fates.Fates.{GoneAll, IsCrashed, IsLate}
use Rattle.st_laws_pages.proofs.Lives.NodeTurns.{row_is}
use Rattle.st_laws_volume.proofs.FailureLives.{PresentOf}

gone_one : (P : LogOwner → Type 0) (es : List LogEntry) → GoneAll P es → (n : ℕ) (o : LogEntry) → slice_get es n ≡ Some o → log.counts o.fate ≡ false → P o.of
gone_one P [] h n o i g = cc i
gone_one P (x ∷ es) h zero o i g =
    subst (λ (y : LogEntry). P y.of) (some_is i) (h.one (ap (λ (y : LogEntry). log.counts y.fate) (some_is i) ∙ g))
gone_one P (x ∷ es) h (suc n) o i g = gone_one P es h.rest n o i g

module _ (w : World) (h : FatesHold w) (o : LogOwner) (p : PresentOf w o) where
  -- no life that ended is the present one
  not_ended : (r : LeaseLife) → ended_of w o.client o.file.server o.life ≡ Some r → ⊥
  not_ended r q =
      let z = row_is o.client o.file.server o.life w.ended r q in
      let below =
      ((h.lives.lives.sites o.client p.site p.there).below r z.0 z.1 p.a (ap (λ s. find (is_at s) p.site.node.state.associations) z.2 ∙ p.place)).below
      p.runs in
      let same = ap (λ (l : Life). l.0) z.3 in
      let own = ap (λ (l : Life). l.0) p.life in omega (arith, below, same, own)

  by_session : (end : Stamp) → end.0 ≤ (clock_of w (nodes.Client o.client)).0 → (x : Option ClientSession) → p.a.session ≡ x →
      end_at p.site.node.state.config (option_map cl.lease_of_session x) ≡ Some end →
      is_ended p.site.node.state.config (clock_of w (nodes.Client o.client)) x ≡ true
  by_session end late None q e = cc e
  by_session end late (Some x) q e =
      let same = ap (λ (k : Stamp). k.0) (some_is e) in
      le-leb (lease.end_of p.site.node.state.config x.lease).0 (clock_of w (nodes.Client o.client)).0 (omega (arith, late, same))

  by_late : IsLate w o → (r : Option LeaseLife) → ended_of w o.client o.file.server o.life ≡ r →
      is_ended p.site.node.state.config (clock_of w (nodes.Client o.client)) p.a.session ≡ true
  by_late k (Some r) q = absurd (not_ended r q)
  by_late k None q =
      by_session k.end k.late p.a.session refl
      (ap (λ y. end_at p.site.node.state.config (cl.lease_at y)) (sym p.place)
      ∙ (ap (world.present_end w o.file.server) (sym p.there)
      ∙ (ap (world.end_or_present w o.client o.file.server) (sym q) ∙ k.is)))

  pub gone_ended : (n : ℕ) (e : LogEntry) → slice_get w.log n ≡ Some e → e.of ≡ o → log.counts e.fate ≡ false →
      is_ended p.site.node.state.config (clock_of w (nodes.Client o.client)) p.a.session ≡ true
  gone_ended n e i same g = go (subst (λ k. IsCrashed w k ⊎ IsLate w k) same (gone_one (λ k. IsCrashed w k ⊎ IsLate w k) w.log h.gone n e i g))
    where
      go : IsCrashed w o ⊎ IsLate w o → is_ended p.site.node.state.config (clock_of w (nodes.Client o.client)) p.a.session ≡ true
      go (inl c) = absurd (not_ended c.row c.is)
      go (inr l) = by_late l (ended_of w o.client o.file.server o.life) refl
