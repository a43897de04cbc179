-- What is owed for the causes of drops at a crash, and when commands are submitted, follows from lives and fates.
use Rattle.st_lemmas.proofs.Words
use Words.{◌≡◌, ℕ, ◌+◌, ◌≤◌, ◌<◌, ◌⊎◌, Bool, true, false, ◌&&◌, List, [], ◌∷◌, ◌++◌, ◌==◌, Option, Some, None, refl, sym, ap, ◌∙◌, subst, inl, inr, arith}
use Words.{if◌then◌else◌, find, map, nat_le, option_map, list_any, eqb-true, eq-eqb, ClientId, ServerId, Life, Stamp, Output, LogEntry, LogOwner, IssuedCommand}
use Words.{LeaseLife}
use Words.nodes
use Words.Keys.{same_server}
use Words.FlatLog as log
use Words.Client as cl
use Words.ClientLease as lease
use Words.ClientState.{Association, ClientState, ClientSession, is_at}
use Words.World as world
use Words.World.{World, WorldClient, numbered, site_of, clock_of, ended_of, end_or_present, life_of_association, lives_of, life_with}
use Words.Events as ev
use Words.Lists.{Has}
use Words.Tables.{some_passes, has_map}
use Words.Truth.{none_not_some, not_both}
use Rattle.st_laws_pages.specs.Drops.Causes.{CrashOwes, LivesOwe}
use Rattle.st_laws_pages.specs.Disks.Obligations.{FatesHold}
use Rattle.st_laws_pages.specs.Fates.Fates.{PendingAll, BeforeEnd}
use Rattle.st_laws_steps.specs.Client.Losses.{is_ended}
use Rattle.st_laws_steps.specs.Lives.Lives.{LifeNext, Stepped, clock_in, IsKnown, NodeHolds, owner_of, LivesHold}
use Rattle.st_laws_steps.proofs.Lives.Associations.{own_found, PairFound, pair_found}
use Rattle.st_laws_pages.proofs.Lives.NodeTurns.{row_is}
use Rattle.st_laws_pages.proofs.Fates.GoneLaw.{Over, pending_crashed}

-- A row that is found passes the test of its life.
of_life : (o : LogOwner) (e : LeaseLife) → e.client ≡ o.client → e.server ≡ o.file.server → e.life.0 ≡ o.life.0 → ev.is_of_life_over e 0 o ≡ true
of_life o e c s l =
    ap (λ z. z && (same_server o.file.server e.server && (o.life.0 == e.life.0))) (eq-eqb o.client.0 e.client.0 (ap (λ (x : ClientId). x.0) (sym c)))
    ∙ ap (λ z. z && (o.life.0 == e.life.0)) (eq-eqb o.file.server.0 e.server.0 (ap (λ (x : ServerId). x.0) (sym s))) ∙ eq-eqb o.life.0 e.life.0 (sym l)

-- A pending entry of a client belongs to its present life, or to one that a crash ended.
pub crash_owes : (w : World) (c : ClientId) → FatesHold w → CrashOwes w w.log c
crash_owes w c h = go w.log h.pending (λ o i. h.lives.known.owners o i)
  where
    one : (o : LogOwner) → IsKnown w.clients w.ended o.client o.file.server o.life → BeforeEnd w o → log.is_of_client c o ≡ true → ((ev.present_life w c o.file.server).0 ≡ o.life.0) ⊎ (list_any (λ l. l.crashed && ev.is_of_life_over l 0 o) w.ended ≡ true)
    one o (inl (e, q)) b t =
        let z = row_is o.client o.file.server o.life w.ended e q in
        inr (some_passes (λ l. l.crashed && ev.is_of_life_over l 0 o) w.ended e z.0
        (ap (λ x. x && ev.is_of_life_over e 0 o) (pending_crashed w h.lives o e q b) ∙ of_life o e z.1 z.2 (ap (λ (l : Life). l.0) z.3)))
    one o (inr q) b t = inl (ap (λ n. (ev.life_of_site o.file.server (numbered w.clients n)).0) (sym (eqb-true o.client.0 c.0 t)) ∙ q)

    go : (es : List LogEntry) → PendingAll (BeforeEnd w) es → ((o : LogOwner) → Has o (map owner_of es) → IsKnown w.clients w.ended o.client o.file.server o.life) → CrashOwes w es c
    go [] p k = record {}
    go (e ∷ es) p k = record { one = λ t q. one e.of (k e.of (inl refl)) (p.one q) t; rest = go es p.rest (λ o i. k o (inr i)) }

-- The present lives of a client are what is looked up.
pub lives_owe : (w : World) (c : ClientId) (site : WorldClient) → site_of w c ≡ Some site → FatesHold w → LivesOwe w c (lives_of site.node.state)
lives_owe w c site there h = go (lives_of site.node.state) (λ e i. has_map (life_of_association site.node.state.config site.node.state.id) site.node.state.associations e i)
  where
    m : NodeHolds w.config w.clocks w.ended c site.node
    m = h.lives.lives.sites c site there

    life : (a : Association) → Has a site.node.state.associations → (ev.present_life w c a.server).0 ≡ a.life.0
    life a i = ap (λ o. (ev.life_of_site a.server o).0) there ∙ ap (λ o. (world.life_at o).0) (own_found site.node.state.associations m.once a i)

    go : (ls : List LeaseLife) → ((e : LeaseLife) → Has e ls → (a : Association) × Has a site.node.state.associations × (e ≡ life_of_association site.node.state.config site.node.state.id a)) → LivesOwe w c ls
    go [] f = record {}
    go (e ∷ ls) f =
        let z = f e (inl refl) in
        record {
          client = ap (λ (x : LeaseLife). x.client) z.2 ∙ m.id;
          life = ap (λ (x : LeaseLife). (ev.present_life w c x.server).0) z.2 ∙ life z.0 z.1 ∙ ap (λ (x : LeaseLife). x.life.0) (sym z.2);
          rest = go ls (λ x i. f x (inr i));
        }

-- A life that is over is none of the lives of a client's node after its step.
pub over_apart : (w : World) (c : ClientId) (old : WorldClient) (after : ClientState) (out : List Output) → site_of w c ≡ Some old → old.node.running ≡ true → Stepped (clock_of w (nodes.Client c)) c old.node.state after out → LivesHold w →
    (o : LogOwner) → IsKnown w.clients w.ended o.client o.file.server o.life → Over w o → o.client.0 ≡ c.0 → (life_with after o.file.server).0 ≡ o.life.0 → ⊥
over_apart w c old after out there r st h o kn ov i l = go (find (is_at o.file.server) after.associations) refl
  where
    now : Stamp
    now = clock_in w.clocks c

    m : NodeHolds w.config w.clocks w.ended c old.node
    m = h.lives.sites c old there

    id : c ≡ o.client
    id = ap (λ n. record { 0 = n }) (sym i)

    -- a row of this owner's life
    row_below : (e : LeaseLife) → ended_of w o.client o.file.server o.life ≡ Some e → (a : Association) → find (is_at o.file.server) old.node.state.associations ≡ Some a → o.life.0 < a.life.0
    row_below e q a f =
        let z = row_is o.client o.file.server o.life w.ended e q in
        let b = (m.below e z.0 (z.1 ∙ sym id) a (ap (λ s. find (is_at s) old.node.state.associations) z.2 ∙ f)).below r in
        let y = ap (λ (x : Life). x.0) z.3 in omega (arith, b, y)

    none : find (is_at o.file.server) after.associations ≡ None → ⊥
    none f =
        let zero : 0 ≡ o.life.0 = ap (λ x. (world.life_at x).0) (sym f) ∙ l in
        at kn ov zero
      where
        born : (e : LeaseLife) → ended_of w o.client o.file.server o.life ≡ Some e → 0 ≡ o.life.0 → ⊥
        born e q z = let x = row_is o.client o.file.server o.life w.ended e q in let b = (h.lives.ends e x.0).born in let y = ap (λ (v : Life). v.0) x.3 in omega (arith, b, y, z)

        absent : (x : Option Association) → find (is_at o.file.server) old.node.state.associations ≡ x → x ≡ None
        absent None g = refl
        absent (Some a) g = absurd (some (Rattle.st_laws_steps.proofs.Lives.Associations.pair_left (LifeNext now old.node.state) (λ x y p. p.server) o.file.server old.node.state.associations after.associations st.pairs a g))
          where
            some : Rattle.st_laws_steps.proofs.Lives.Associations.PairLeft (LifeNext now old.node.state) o.file.server after.associations a → ⊥
            some p = none_not_some p.b (sym f ∙ p.is)

        at : IsKnown w.clients w.ended o.client o.file.server o.life → Over w o → 0 ≡ o.life.0 → ⊥
        at (inl (e, q)) v z = born e q z
        at (inr q) (inl x) z = born x.row x.is z
        at (inr q) (inr x) z = late (ended_of w o.client o.file.server o.life) refl
          where
            late : (y : Option LeaseLife) → ended_of w o.client o.file.server o.life ≡ y → ⊥
            late (Some e) g = born e g z
            late None g =
                none_not_some x.end
                (ap (λ y. lease.end_at old.node.state.config (cl.lease_at y)) (sym (absent (find (is_at o.file.server) old.node.state.associations) refl)) ∙ ap (world.present_end w o.file.server) (sym there)
                ∙ ap (λ j. world.present_end w o.file.server (numbered w.clients j)) (sym i) ∙ ap (end_or_present w o.client o.file.server) (sym g) ∙ x.is)

    some : (b : Association) → find (is_at o.file.server) after.associations ≡ Some b → PairFound (LifeNext now old.node.state) o.file.server old.node.state.associations b → ⊥
    some b f p = at (is_ended old.node.state.config now p.a.session) refl
      where
        life_is : b.life.0 ≡ o.life.0
        life_is = ap (λ x. (world.life_at x).0) (sym f) ∙ l

        -- no session of the client is over that goes on
        open_end : is_ended old.node.state.config now p.a.session ≡ false → (end : Stamp) → lease.end_at old.node.state.config (cl.lease_at (Some p.a)) ≡ Some end → end.0 ≤ now.0 → ⊥
        open_end n end q le = by p.a.session refl
          where
            inj : (x y : Stamp) → Some x ≡ Some y → x ≡ y
            inj x y e = cc

            by : (s : Option ClientSession) → p.a.session ≡ s → ⊥
            by None e = none_not_some end (ap (λ o. lease.end_at old.node.state.config (option_map cl.lease_of_session o)) (sym e) ∙ q)
            by (Some s) e =
                let same : lease.end_of old.node.state.config s.lease ≡ end = inj _ end (ap (λ o. lease.end_at old.node.state.config (option_map cl.lease_of_session o)) (sym e) ∙ q) in
                not_both (nat_le (lease.end_of old.node.state.config s.lease).0 now.0) (Rattle.std.proofs.lemmas.Bool.le-leb (lease.end_of old.node.state.config s.lease).0 now.0 (subst (λ (x : Stamp). x.0 ≤ now.0) (sym same) le)) (ap (is_ended old.node.state.config now) (sym e) ∙ n)

        present : (ev.present_life w o.client o.file.server).0 ≡ p.a.life.0
        present = ap (λ n. (ev.life_of_site o.file.server (numbered w.clients n)).0) i ∙ ap (λ x. (ev.life_of_site o.file.server x).0) there ∙ ap (λ x. (world.life_at x).0) p.is

        at : (x : Bool) → is_ended old.node.state.config now p.a.session ≡ x → ⊥
        at true e = known kn
          where
            next : o.life.0 ≡ p.a.life.0 + 1
            next = sym life_is ∙ ap (λ (x : Life). x.0) (sym (p.pair.lost e))

            known : IsKnown w.clients w.ended o.client o.file.server o.life → ⊥
            known (inl (y, q)) = let b = row_below y q p.a p.is in omega (arith, b, next)
            known (inr q) = let y : p.a.life.0 ≡ o.life.0 = sym present ∙ q in omega (arith, y, next)
        at false e = over ov
          where
            same : p.a.life.0 ≡ o.life.0
            same = ap (λ (x : Life). x.0) (p.pair.lasts e).0 ∙ life_is

            over : Over w o → ⊥
            over (inl x) = let b = row_below x.row x.is p.a p.is in omega (arith, b, same)
            over (inr x) = late (ended_of w o.client o.file.server o.life) refl
              where
                late : (y : Option LeaseLife) → ended_of w o.client o.file.server o.life ≡ y → ⊥
                late (Some y) q = let b = row_below y q p.a p.is in omega (arith, b, same)
                late None q =
                    open_end e x.end
                    (ap (λ y. lease.end_at old.node.state.config (cl.lease_at y)) (sym p.is) ∙ ap (world.present_end w o.file.server) (sym there)
                    ∙ ap (λ j. world.present_end w o.file.server (numbered w.clients j)) (sym i) ∙ ap (end_or_present w o.client o.file.server) (sym q) ∙ x.is)
                    (subst (λ (d : ClientId). x.end.0 ≤ (clock_in w.clocks d).0) (sym id) x.late)

    go : (x : Option Association) → find (is_at o.file.server) after.associations ≡ x → ⊥
    go None f = none f
    go (Some b) f = some b f (pair_found (LifeNext now old.node.state) (λ x y p. p.server) o.file.server old.node.state.associations after.associations st.pairs b f)

-- One more command: the last write of an owner stays if it carries no entry of that owner.
pub last_more : (o : LogOwner) (n before : ℕ) (cs : List IssuedCommand) (x : IssuedCommand) → ev.carries_for o x x.carries ≡ false → ev.last_write_from n before o (cs ++ x ∷ []) ≡ ev.last_write_from n before o cs
unfolding ev.last_write_from ev.last_write_at
last_more o n before [] x e = ap (λ b. if b then n else before) e
last_more o n before (c ∷ cs) x e = last_more o (n + 1) (ev.last_write_at o n before c) cs x e
