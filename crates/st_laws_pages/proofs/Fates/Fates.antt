-- After an advance nothing is pending of a life whose end was reached.
use Rattle.st_lemmas.proofs.Words
use Words.{◌≡◌, ℕ, ◌+◌, ◌<◌, ◌⊎◌, Bool, true, false, ◌&&◌, List, [], ◌∷◌, ◌++◌, ◌==◌, Some, refl, sym, ap, ◌∙◌, subst, inl, inr, if◌then◌else◌, nat_le, nat_lt}
use Words.{filter, eqb-true, leb-false, lt-ltb, FileId, PageNo, ClientId, Cause, Fate, LogEntry, LogOwner, IssuedCommand, LeaseLife}
use Words.nodes
use Words.fates
use Words.Keys.{same_client, same_server}
use Words.FlatLog as log
use Words.World.{World, clock_of}
use Words.Admissible as adm
use Words.Events as ev
use Words.Tables.{and_true, and_both}
use Words.Truth.{not_both}
use Rattle.st_laws_pages.specs.Fates.Fates.{PendingAll, BeforeEnd, FatesAreKept, Has, RowOf}
use Rattle.st_laws_pages.proofs.Disks.Moves.{clock_is}

pub pending_map : (P Q : LogOwner → Type 0) (es : List LogEntry) → ((o : LogOwner) → P o → Q o) → PendingAll P es → PendingAll Q es
pending_map P Q [] f h = h
pending_map P Q (e ∷ es) f h = record { one = λ p. f e.of (h.one p); rest = pending_map P Q es f h.rest }

-- a drop leaves pending what it doesn't pick
pending_drop : (P : LogOwner → Type 0) (n : ℕ) (test : LogOwner → Bool) (cause : FileId → PageNo → Cause) (es : List LogEntry) → PendingAll P es → PendingAll (λ o. P o × (test o ≡ false)) (log.drop_from n (λ m o. test o) cause es)
unfolding log.drop_from log.dropped log.lost_entry
pending_drop P n test cause [] h = h
pending_drop P n test cause (e ∷ es) h = go (test e.of) refl (pending_drop P (n + 1) test cause es h.rest)
  where
    never : (c : Cause) (f : Fate) → log.is_pending (log.lost c f) ≡ true → ⊥
    never c fates.Pending q = cc
    never c fates.Hard q = cc
    never c (fates.Gone d) q = cc

    go : (b : Bool) → test e.of ≡ b → PendingAll (λ o. P o × (test o ≡ false)) (log.drop_from (n + 1) (λ m o. test o) cause es) →
        PendingAll (λ o. P o × (test o ≡ false)) ((if b then record e { fate = log.lost (cause e.of.file e.of.page) e.fate } else e) ∷ log.drop_from (n + 1) (λ m o. test o) cause es)
    go true q r = record { one = λ p. absurd (never (cause e.of.file e.of.page) e.fate p); rest = r }
    go false q r = record { one = λ p. (h.one p, q); rest = r }

pending_ended : (P : LogOwner → Type 0) (cs : List IssuedCommand) (ls : List LeaseLife) (es : List LogEntry) → PendingAll P es → PendingAll (λ o. P o × ((l : LeaseLife) → Has l ls → ev.is_of_life_over l 0 o ≡ false)) (ev.log_ended_all cs ls es)
unfolding ev.log_ended_all ev.log_ended log.drop_picked
pending_ended P cs [] es h = pending_map P (λ o. P o × ((l : LeaseLife) → Has l [] → ev.is_of_life_over l 0 o ≡ false)) es (λ o p. (p, λ l i. absurd i)) h
pending_ended P cs (l ∷ ls) es h =
    pending_map (λ o. (P o × (ev.is_of_life_over l 0 o ≡ false)) × ((x : LeaseLife) → Has x ls → ev.is_of_life_over x 0 o ≡ false)) (λ o. P o × ((x : LeaseLife) → Has x (l ∷ ls) → ev.is_of_life_over x 0 o ≡ false)) _
    (λ o p. (p.0.0, λ x i. either o x p.0.1 p.1 i))
    (pending_ended (λ o. P o × (ev.is_of_life_over l 0 o ≡ false)) cs ls (ev.log_ended cs l es) (pending_drop P 1 (ev.is_of_life_over l 0) (ev.cause_at_end cs l) es h))
  where
    either : (o : LogOwner) (x : LeaseLife) → ev.is_of_life_over l 0 o ≡ false → ((x : LeaseLife) → Has x ls → ev.is_of_life_over x 0 o ≡ false) → Has x (l ∷ ls) → ev.is_of_life_over x 0 o ≡ false
    either o x a b (inl e) = ap (λ y. ev.is_of_life_over y 0 o) e ∙ a
    either o x a b (inr i) = b x i

has_filter : (q : LeaseLife → Bool) (x : LeaseLife) (xs : List LeaseLife) → Has x xs → q x ≡ true → Has x (filter q xs)
has_filter q x [] h e = h
has_filter q x (y ∷ ys) h e = go (q y) refl h (λ i. has_filter q x ys i e)
  where
    go : (b : Bool) → q y ≡ b → (x ≡ y) ⊎ Has x ys → (Has x ys → Has x (filter q ys)) → Has x (if b then y ∷ filter q ys else filter q ys)
    go true f (inl i) r = inl i
    go true f (inr i) r = inr (r i)
    go false f (inl i) r = absurd (not_both (q x) e (ap q i ∙ f))
    go false f (inr i) r = r i

-- an advance leaves nothing pending of a life whose end it reaches
pub advance_fates : (w : World) (steps : List ℕ) → PendingAll (RowOf w) w.log → FatesAreKept w → FatesAreKept (ev.advances w steps).world
unfolding ev.advances ev.marks ev.lives_reached
advance_fates w steps rows h =
    pending_map (λ o. (BeforeEnd w o × RowOf w o) × ((l : LeaseLife) → Has l ls → ev.is_of_life_over l 0 o ≡ false)) (BeforeEnd v) _ (λ o p. still o p.0.0 p.0.1 p.1)
    (pending_ended (λ o. BeforeEnd w o × RowOf w o) w.commands ls w.log (both w.log h rows))
  where
    v : World
    v = ev.with_log (ev.log_ended_all w.commands (filter (ev.is_reached w steps) (ev.present_lives w.clients ++ w.ended)) w.log) (ev.with_clocks steps w)

    ls : List LeaseLife
    ls = filter (ev.is_reached w steps) (ev.present_lives w.clients ++ w.ended)

    both : (es : List LogEntry) → PendingAll (BeforeEnd w) es → PendingAll (RowOf w) es → PendingAll (λ o. BeforeEnd w o × RowOf w o) es
    both [] a b = record {}
    both (e ∷ es) a b = record { one = λ p. (a.one p, b.one p); rest = both es a.rest b.rest }

    still : (o : LogOwner) → BeforeEnd w o → RowOf w o → ((l : LeaseLife) → Has l ls → ev.is_of_life_over l 0 o ≡ false) → BeforeEnd v o
    still o b r n = record { end = b.end; is = b.is; before = go (nat_le b.end.0 ((clock_of w (nodes.Client o.client)).0 + adm.step_of o.client steps)) refl }
      where
        client_is : r.row.client ≡ o.client
        client_is = sym (ap (λ k. record { 0 = k }) (eqb-true o.client.0 r.row.client.0 (and_true (same_client o.client r.row.client) (same_server o.file.server r.row.server && (o.life.0 == r.row.life.0)) r.its).0))

        now : (clock_of (ev.with_clocks steps w) (nodes.Client o.client)).0 ≡ (clock_of w (nodes.Client o.client)).0 + adm.step_of o.client steps
        now = clock_is w steps o.client r.clock r.ticks

        reached : nat_le b.end.0 ((clock_of w (nodes.Client o.client)).0 + adm.step_of o.client steps) ≡ true → ev.is_reached w steps r.row ≡ true
        reached q =
            ap (adm.reaches (clock_of w (nodes.Client r.row.client)) (adm.step_of r.row.client steps)) (r.end_is ∙ b.is)
            ∙ ap (λ (c : ClientId). adm.reaches (clock_of w (nodes.Client c)) (adm.step_of c steps) (Some b.end)) client_is
            ∙ and_both (nat_lt (clock_of w (nodes.Client o.client)).0 b.end.0) (nat_le b.end.0 ((clock_of w (nodes.Client o.client)).0 + adm.step_of o.client steps)) (lt-ltb _ _ b.before) q

        go : (z : Bool) → nat_le b.end.0 ((clock_of w (nodes.Client o.client)).0 + adm.step_of o.client steps) ≡ z → (clock_of (ev.with_clocks steps w) (nodes.Client o.client)).0 < b.end.0
        go true q = absurd (not_both (ev.is_of_life_over r.row 0 o) r.its (n r.row (has_filter (ev.is_reached w steps) r.row (ev.present_lives w.clients ++ w.ended) r.there (reached q))))
        go false q = subst (λ m. m < b.end.0) (sym now) (leb-false b.end.0 _ q)
