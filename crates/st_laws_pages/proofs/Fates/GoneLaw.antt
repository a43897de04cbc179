-- What is gone belongs to a life that a crash ended, or whose lease is over: through a step of a client, marks of the log, a crash and a start.
use Rattle.st_lemmas.proofs.Words
use Words.{◌≡◌, ◌≢◌, ℕ, ◌+◌, ◌≤◌, ◌⊎◌, Bool, true, false, ◌&&◌, not, List, [], ◌∷◌, ◌++◌, ◌==◌, Option, Some, None, Ok, refl, sym, ap, ◌∙◌, subst, inl, inr}
use Words.{arith, if◌then◌else◌, leb-true, find, filter, map, nat_le, option_map, eqb-true, ne_eqb, le-leb, ClientId, FileId, PageNo, ServerId, Life, Stamp}
use Words.{Note, Output, Cause, Fate, LogEntry, LogOwner, Carried, IssuedCommand, LeaseLife}
use Words.nodes
use Words.notes
use Words.outputs
use Words.causes
use Words.fates
use Words.Keys.{same_client, same_server}
use Words.FlatLog as log
use Words.Client as cl
use Words.ClientLease as lease
use Words.ClientState.{Association, ClientState, ClientSession, is_at}
use Words.World as world
use Words.World.{World, WorldClient, numbered, with_numbered, site_of, clock_of, is_life_of, ended_of, end_or_present, lease_end_of, life_of_association}
use Words.World.{lives_of}
use Words.Admissible as adm
use Words.Events as ev
use Words.Events.{WorldTurn, client_says, client_says_all, client_notes, present_lives}
use Words.Lists.{Has}
use Words.Tables.{has_filter, same_or_not, and_true}
use Words.Numbers.{numbered_other, numbered_below}
use Words.Truth.{none_not_some, not_both}
use Rattle.st_laws_pages.specs.Disks.World.{EndsAt}
use Rattle.st_laws_pages.specs.Fates.Fates.{PendingAll, BeforeEnd, FatesAreKept, GoneAll, IsCrashed, IsLate, GoneHold}
use Rattle.st_laws_steps.specs.Client.Losses.{is_ended}
use Rattle.st_laws_steps.specs.Lives.Lives.{ended_rows, rows_lost, Stepped, clock_in, IsKnown, NodeHolds, owner_of, LivesHold}
use Rattle.st_laws_pages.proofs.Lives.Lives.{find_front, find_back, rows_own}
use Rattle.st_laws_pages.proofs.Disks.Moves.{clock_up, clock_is}
use Rattle.st_laws_steps.proofs.Lives.Associations.{found_has, lost_found, lost_other}
use Rattle.st_laws_pages.proofs.Lives.NodeTurns.{row_is}
use Rattle.st_laws_pages.proofs.Fates.FateLaw.{end_crashed, end_started, known_life}
use Rattle.st_laws_pages.proofs.Lives.Turning.{Said, says_lives}
use Rattle.st_laws_pages.proofs.Lives.Lasting.{Flushed, flush_parts, end_one}

-- a crash ended the life, or its lease is over
abbrev pub Over : World → LogOwner → Type 0
Over w o = IsCrashed w o ⊎ IsLate w o

pub gone_known : (P Q : LogOwner → Type 0) (es : List LogEntry) → ((o : LogOwner) → Has o (map owner_of es) → P o → Q o) → GoneAll P es → GoneAll Q es
gone_known P Q [] f h = h
gone_known P Q (e ∷ es) f h = record { one = λ q. f e.of (inl refl) (h.one q); rest = gone_known P Q es (λ o i. f o (inr i)) h.rest }

pub gone_more : (P : LogOwner → Type 0) (es : List LogEntry) (e : LogEntry) → log.counts e.fate ≡ true → GoneAll P es → GoneAll P (es ++ e ∷ [])
gone_more P [] e t h = record { one = λ q. absurd (not_both (log.counts e.fate) t q); rest = record {} }
gone_more P (x ∷ es) e t h = record { one = h.one; rest = gone_more P es e t h.rest }

-- A client's step.
pub one_gone : (P : LogOwner → Type 0) (c : ClientId) (before : ClientState) (o : Output) (sc : WorldTurn) → GoneAll P sc.world.log → GoneAll P (client_says sc c before o).world.log
unfolding client_says ev.sends ev.submits ev.answers_with client_notes ev.accepts ev.patches ev.loses log.accept log.patch
one_gone P c before (outputs.Send m) sc h = h
one_gone P c before (outputs.Answer op a) sc h = h
one_gone P c before (outputs.Submit k at what) sc h = go (site_of sc.world c)
  where
    go : (o : Option WorldClient) → GoneAll P (ev.submits sc c o k at what).world.log
    go None = h
    go (Some site) = h
one_gone P c before (outputs.Note m) sc h = note m
  where
    note : (m : Note) → GoneAll P (client_notes sc c before m).world.log
    note (notes.Accepted f p bytes) = gone_more P sc.world.log _ refl h
    note (notes.Patched f p at bytes) = gone_more P sc.world.log _ refl h
    note (notes.Lost s life) = h
    note m = h

says_gone : (P : LogOwner → Type 0) (c : ClientId) (before : ClientState) (os : List Output) (sc : WorldTurn) → GoneAll P sc.world.log → GoneAll P (client_says_all c before os sc).world.log
unfolding client_says_all
says_gone P c before [] sc h = h
says_gone P c before (o ∷ os) sc h = says_gone P c before os (client_says sc c before o) (one_gone P c before o sc h)

-- what is over stays so
module _ (w v : World) (c : ClientId) (old site : WorldClient) (there : site_of w c ≡ Some old) (h : LivesHold w) (ts : v.clocks ≡ w.clocks) (cs : v.clients ≡ with_numbered c.0 site w.clients)
    (es : v.ended ≡ w.ended ++ rows_lost c old.node.state (clock_in w.clocks c) old.node.state.associations) where
  abbrev rows : List LeaseLife
  rows = rows_lost c old.node.state (clock_in w.clocks c) old.node.state.associations

  end_now : (d : ClientId) (s : ServerId) (l : Life) (o : Option LeaseLife) → find (is_life_of d s l) (w.ended ++ rows) ≡ o → lease_end_of v d s l ≡ end_or_present v d s o
  end_now d s l o q = ap (end_or_present v d s) (ap (find (is_life_of d s l)) es ∙ q)

  late_now : (d : ClientId) (end : Stamp) → end.0 ≤ (clock_of w (nodes.Client d)).0 → end.0 ≤ (clock_of v (nodes.Client d)).0
  late_now d end b = subst (λ z. end.0 ≤ (clock_in z d).0) (sym ts) b

  step_over : (o : LogOwner) → IsKnown w.clients w.ended o.client o.file.server o.life → Over w o → Over v o
  step_over o kn (inl x) = inl (record { row = x.row; is = ap (find (is_life_of o.client o.file.server o.life)) es ∙ find_front (is_life_of o.client o.file.server o.life) w.ended rows x.row x.is; crashed = x.crashed })
  step_over o kn (inr x) = inr (go (ended_of w o.client o.file.server o.life) refl (same_or_not o.client.0 c.0))
    where
      by_session : (a : Association) → find (is_at o.file.server) old.node.state.associations ≡ Some a → o.client.0 ≡ c.0 → ended_of w o.client o.file.server o.life ≡ None → (s : Option ClientSession) → a.session ≡ s → lease.end_at old.node.state.config (option_map cl.lease_of_session s) ≡ Some x.end → IsLate v o
      by_session a f i n None e q = absurd (none_not_some x.end q)
      by_session a f i n (Some s) e q =
          record {
            end = x.end;
            is =
                end_now o.client o.file.server o.life (Some row)
                (find_back (is_life_of o.client o.file.server o.life) w.ended rows n ∙ ap (λ d. find (is_life_of d o.file.server o.life) rows) (sym id)
                ∙ lost_found c old.node.state (clock_in w.clocks c) o.file.server o.life old.node.state.associations a f over life)
                ∙ ap (λ z. lease.end_at old.node.state.config (cl.lease_at (find (is_at z) old.node.state.associations))) (found_has o.file.server old.node.state.associations a f).1
                ∙ ap (λ y. lease.end_at old.node.state.config (cl.lease_at y)) f ∙ ap (λ y. lease.end_at old.node.state.config (option_map cl.lease_of_session y)) e ∙ q;
            late = late_now o.client x.end x.late;
          }
        where
          inj : (a b : Stamp) → Some a ≡ Some b → a ≡ b
          inj a b e = cc

          row : LeaseLife
          row = Rattle.st_laws_steps.specs.Lives.Lives.lost_row c old.node.state a.server a.life

          id : c ≡ o.client
          id = ap (λ m. record { 0 = m }) (sym i)

          over : is_ended old.node.state.config (clock_in w.clocks c) a.session ≡ true
          over = ap (is_ended old.node.state.config (clock_in w.clocks c)) e ∙ le-leb (lease.end_of old.node.state.config s.lease).0 (clock_in w.clocks c).0 (subst (λ (z : Stamp). z.0 ≤ (clock_in w.clocks c).0) (sym (inj _ x.end q)) (subst (λ d. x.end.0 ≤ (clock_in w.clocks d).0) (sym id) x.late))

          life : a.life.0 ≡ o.life.0
          life = known_life w c old there o a f i n kn

      by_place : (a : Option Association) → find (is_at o.file.server) old.node.state.associations ≡ a → o.client.0 ≡ c.0 → ended_of w o.client o.file.server o.life ≡ None → lease.end_at old.node.state.config (cl.lease_at a) ≡ Some x.end → IsLate v o
      by_place None f i n q = absurd (none_not_some x.end q)
      by_place (Some a) f i n q = by_session a f i n a.session refl q

      go : (y : Option LeaseLife) → ended_of w o.client o.file.server o.life ≡ y → (o.client.0 ≡ c.0) ⊎ (o.client.0 ≢ c.0) → IsLate v o
      go (Some e) q i =
          record { end = x.end; is = end_now o.client o.file.server o.life (Some e) (find_front (is_life_of o.client o.file.server o.life) w.ended rows e q) ∙ ap (end_or_present w o.client o.file.server) (sym q) ∙ x.is; late = late_now o.client x.end x.late }
      go None q (inl i) =
          by_place (find (is_at o.file.server) old.node.state.associations) refl i q
          (ap (world.present_end w o.file.server) (sym there) ∙ ap (λ j. world.present_end w o.file.server (numbered w.clients j)) (sym i) ∙ ap (end_or_present w o.client o.file.server) (sym q) ∙ x.is)
      go None q (inr i) =
          record {
            end = x.end;
            is =
                end_now o.client o.file.server o.life None
                (find_back (is_life_of o.client o.file.server o.life) w.ended rows q ∙ lost_other c o.client old.node.state (clock_in w.clocks c) o.file.server o.life old.node.state.associations (ne_eqb c.0 o.client.0 (λ z. i (sym z))))
                ∙ ap (world.present_end w o.file.server) (ap (λ z. numbered z o.client.0) cs ∙ numbered_other w.clients c.0 o.client.0 site (numbered_below w.clients c.0 old there).0 i) ∙ ap (end_or_present w o.client o.file.server) (sym q) ∙ x.is;
            late = late_now o.client x.end x.late;
          }

pub client_gone : (w : World) (c : ClientId) (old site : WorldClient) (t : cl.NodeTurn) → site_of w c ≡ Some old → old.node ≡ site.node → Stepped (clock_of w (nodes.Client c)) c old.node.state t.node.state t.out → LivesHold w → GoneHold w → GoneHold (ev.client_took w c site (Ok t)).world
unfolding ev.client_took
client_gone w c old site t there same st h g =
    subst (GoneAll (Over v)) (sym fl.log)
    (says_gone (Over v) c site.node.state t.out (ev.quiet v0)
    (gone_known (Over w) (Over v) w.log
    (λ o i x. step_over w v c old (ev.at_node t.node site) there h (fl.clocks ∙ said.clocks) (fl.clients ∙ said.clients) (fl.ended ∙ said.ended ∙ ap (λ z. w.ended ++ z) (ap (λ (n : cl.ClientNode). ended_rows c n.state t.out) (sym same) ∙ st.rows)) o (h.known.owners o i) x) g))
  where
    v0 : World
    v0 = ev.with_site c (ev.at_node t.node site) w

    u : World
    u = (client_says_all c site.node.state t.out (ev.quiet v0)).world

    v : World
    v = ev.flushes c t.node.state (world.all_servers u) u

    said : Said c (ended_rows c site.node.state t.out) v0 u
    said = says_lives c site.node.state t.out (ev.quiet v0)

    fl : Flushed u v
    fl = flush_parts c t.node.state (world.all_servers u) u

-- the same parts, by computation
pub kept : (w : World) (o : LogOwner) (v : World) → (IsCrashed w o → IsCrashed v o) → (IsLate w o → IsLate v o) → Over w o → Over v o
kept w o v f g (inl x) = inl (f x)
kept w o v f g (inr x) = inr (g x)

-- Fates that change.
gone_harden : (P : LogOwner → Type 0) (n i : ℕ) (o : LogOwner) (es : List LogEntry) → GoneAll P es → GoneAll P (log.harden_from n i o es)
unfolding log.harden_from log.hardened log.harder_entry
gone_harden P n i o [] h = h
gone_harden P n i o (e ∷ es) h = go (nat_le n i && log.same_owner e.of o) (gone_harden P (n + 1) i o es h.rest)
  where
    same : (f : Fate) → log.counts (log.harder f) ≡ log.counts f
    same fates.Pending = refl
    same fates.Hard = refl
    same (fates.Gone d) = refl

    go : (b : Bool) → GoneAll P (log.harden_from (n + 1) i o es) → GoneAll P ((if b then record e { fate = log.harder e.fate } else e) ∷ log.harden_from (n + 1) i o es)
    go true r = record { one = λ q. h.one (sym (same e.fate) ∙ q); rest = r }
    go false r = record { one = h.one; rest = r }

pub gone_hard : (P : LogOwner → Type 0) (es : List LogEntry) (x : Option Carried) → GoneAll P es → GoneAll P (ev.log_hard es x)
unfolding log.harden log.harden_at
gone_hard P es None h = h
gone_hard P es (Some x) h = go (log.entry_at es x.index)
  where
    go : (o : Option LogEntry) → GoneAll P (log.harden_at es x.index o)
    go None = h
    go (Some e) = gone_harden P 1 x.index e.of es h

-- a drop takes what it picks, of which the fact holds
gone_drop : (P : LogOwner → Type 0) (n : ℕ) (picked : ℕ → LogOwner → Bool) (cause : FileId → PageNo → Cause) (es : List LogEntry) → ((m : ℕ) (e : LogEntry) → Has e es → log.is_pending e.fate ≡ true → picked m e.of ≡ true → P e.of) → GoneAll P es → GoneAll P (log.drop_from n picked cause es)
unfolding log.drop_from log.dropped log.lost_entry
gone_drop P n picked cause [] f h = h
gone_drop P n picked cause (e ∷ es) f h = go (picked n e.of) refl (gone_drop P (n + 1) picked cause es (λ m x i. f m x (inr i)) h.rest)
  where
    at : (c : Cause) (x : Fate) → e.fate ≡ x → picked n e.of ≡ true → log.counts (log.lost c x) ≡ false → P e.of
    at c fates.Pending q b z = f n e (inl refl) (ap log.is_pending q) b
    at c fates.Hard q b z = cc z
    at c (fates.Gone d) q b z = h.one (ap log.counts q)

    go : (b : Bool) → picked n e.of ≡ b → GoneAll P (log.drop_from (n + 1) picked cause es) → GoneAll P ((if b then record e { fate = log.lost (cause e.of.file e.of.page) e.fate } else e) ∷ log.drop_from (n + 1) picked cause es)
    go true b r = record { one = λ q. at (cause e.of.file e.of.page) e.fate refl b q; rest = r }
    go false b r = record { one = h.one; rest = r }

-- Advance.
gone_ended : (P : LogOwner → Type 0) (cs : List IssuedCommand) (ls : List LeaseLife) (es : List LogEntry) → ((l : LeaseLife) (o : LogOwner) → Has l ls → ev.is_of_life_over l 0 o ≡ true → P o) → GoneAll P es → GoneAll P (ev.log_ended_all cs ls es)
unfolding ev.log_ended_all ev.log_ended log.drop_picked
gone_ended P cs [] es f h = h
gone_ended P cs (l ∷ ls) es f h = gone_ended P cs ls (ev.log_ended cs l es) (λ x o i. f x o (inr i)) (gone_drop P 1 (ev.is_of_life_over l) (ev.cause_at_end cs l) es (λ m e i q b. f l e.of (inl refl) b) h)

pub advance_gone : (w : World) (steps : List ℕ) → LivesHold w → GoneHold w → GoneHold (ev.advances w steps).world
unfolding ev.advances ev.marks ev.lives_reached
advance_gone w steps h g =
    gone_ended (Over v) w.commands (filter (ev.is_reached w steps) (present_lives w.clients ++ w.ended)) w.log reached
    (gone_known (Over w) (Over v) w.log (λ o i z. kept w o v (λ x. record { row = x.row; is = x.is; crashed = x.crashed }) (λ x. let y = x.late in let u = clock_up w steps o.client in record { end = x.end; is = x.is; late = omega (arith, y, u) }) z) g)
  where
    v : World
    v = ev.with_log (ev.log_ended_all w.commands (filter (ev.is_reached w steps) (present_lives w.clients ++ w.ended)) w.log) (ev.with_clocks steps w)

    late : (l : LeaseLife) (o : LogOwner) → Has l (present_lives w.clients ++ w.ended) → (e : Option Stamp) → l.end ≡ e → adm.reaches (clock_of w (nodes.Client l.client)) (adm.step_of l.client steps) e ≡ true → l.client ≡ o.client → l.server ≡ o.file.server → l.life ≡ o.life → Over v o
    late l o i None q r c s z = cc r
    late l o i (Some t) q r c s z =
        let a : EndsAt w l t = end_one w h l i t q in
        let le = leb-true t.0 ((clock_of w (nodes.Client l.client)).0 + adm.step_of l.client steps) (and_true (Rattle.std.specs.Prelude.nat_lt (clock_of w (nodes.Client l.client)).0 t.0) (nat_le t.0 ((clock_of w (nodes.Client l.client)).0 + adm.step_of l.client steps)) r).1 in
        let cl : (clock_of (ev.with_clocks steps w) (nodes.Client l.client)).0 ≡ (clock_of w (nodes.Client l.client)).0 + adm.step_of l.client steps = clock_is w steps l.client a.clock a.there in
        inr (record {
          end = t;
          is = ap (λ x. lease_end_of w x o.file.server o.life) (sym c) ∙ ap (λ x. lease_end_of w l.client x o.life) (sym s) ∙ ap (λ x. lease_end_of w l.client l.server x) (sym z) ∙ a.agree;
          late = subst (λ (x : ClientId). t.0 ≤ (clock_of (ev.with_clocks steps w) (nodes.Client x)).0) c (subst (λ m. t.0 ≤ m) (sym cl) le);
        })

    reached : (l : LeaseLife) (o : LogOwner) → Has l (filter (ev.is_reached w steps) (present_lives w.clients ++ w.ended)) → ev.is_of_life_over l 0 o ≡ true → Over v o
    reached l o i q =
        let y = has_filter (ev.is_reached w steps) (present_lives w.clients ++ w.ended) l i in
        let a = and_true (same_client o.client l.client) (same_server o.file.server l.server && (o.life.0 == l.life.0)) q in
        let b = and_true (same_server o.file.server l.server) (o.life.0 == l.life.0) a.1 in
        late l o y.0 l.end refl y.1 (sym (ap (λ n. record { 0 = n }) (eqb-true o.client.0 l.client.0 a.0))) (sym (ap (λ n. record { 0 = n }) (eqb-true o.file.server.0 l.server.0 b.0))) (sym (ap (λ n. record { 0 = n }) (eqb-true o.life.0 l.life.0 b.1)))

-- What is pending of a life that ended is of one that a crash ended.
pub pending_crashed : (w : World) → LivesHold w → (o : LogOwner) (e : LeaseLife) → ended_of w o.client o.file.server o.life ≡ Some e → BeforeEnd w o → e.crashed ≡ true
pending_crashed w h o e q b = go e.crashed refl
  where
    z : Has e w.ended × (e.client ≡ o.client) × (e.server ≡ o.file.server) × (e.life ≡ o.life)
    z = row_is o.client o.file.server o.life w.ended e q

    inj : (x y : Stamp) → Some x ≡ Some y → x ≡ y
    inj x y e = cc

    go : (c : Bool) → e.crashed ≡ c → e.crashed ≡ true
    go true c = c
    go false c =
        let y = (h.lives.ends e z.0).over c in
        let end : y.0 ≡ b.end = inj y.0 b.end (sym y.1 ∙ ap (end_or_present w o.client o.file.server) (sym q) ∙ b.is) in
        let t = subst (λ (d : ClientId). y.0.0 ≤ (clock_in w.clocks d).0) z.1 y.2 in
        let n = ap (λ (s : Stamp). s.0) end in
        let lt = b.before in
        absurd (omega (arith, t, n, lt))

-- Crash.
crash_over : (w : World) (c : ClientId) (site : WorldClient) → site_of w c ≡ Some site → LivesHold w → (o : LogOwner) → IsKnown w.clients w.ended o.client o.file.server o.life → Over w o ⊎ ((o.client.0 ≡ c.0) × BeforeEnd w o) →
    Over (ev.with_site c (ev.stopped_site site) (ev.with_crashed_lives site w)) o
crash_over w c site there h o kn x = go (ended_of w o.client o.file.server o.life) refl x
  where
    v : World
    v = ev.with_site c (ev.stopped_site site) (ev.with_crashed_lives site w)

    p : LeaseLife → Bool
    p = is_life_of o.client o.file.server o.life

    rows : List LeaseLife
    rows = map ev.crashed_life (lives_of site.node.state)

    m : NodeHolds w.config w.clocks w.ended c site.node
    m = h.lives.sites c site there

    -- the client's own life is ended by the crash
    own : (a : Option Association) → find (is_at o.file.server) site.node.state.associations ≡ a → o.client.0 ≡ c.0 → find p w.ended ≡ None → (end : Stamp) → lease.end_at site.node.state.config (cl.lease_at a) ≡ Some end → Over v o
    own None f i n end q = absurd (none_not_some end q)
    own (Some a) f i n end q =
        inl (record {
          row = ev.crashed_life (life_of_association site.node.state.config o.client a);
          is =
              find_back p w.ended rows n ∙ ap (λ z. find p (map ev.crashed_life (map (life_of_association site.node.state.config z) site.node.state.associations))) (m.id ∙ ap (λ j. record { 0 = j }) (sym i))
              ∙ rows_own site.node.state.config o.client o.file.server o.life site.node.state.associations a f (known_life w c site there o a f i n kn);
          crashed = refl;
        })

    present : o.client.0 ≡ c.0 → find p w.ended ≡ None → (end : Stamp) → lease_end_of w o.client o.file.server o.life ≡ Some end → Over v o
    present i n end q =
        own (find (is_at o.file.server) site.node.state.associations) refl i n end
        (ap (world.present_end w o.file.server) (sym there) ∙ ap (λ j. world.present_end w o.file.server (numbered w.clients j)) (sym i) ∙ ap (end_or_present w o.client o.file.server) (sym n) ∙ q)

    go : (y : Option LeaseLife) → ended_of w o.client o.file.server o.life ≡ y → Over w o ⊎ ((o.client.0 ≡ c.0) × BeforeEnd w o) → Over v o
    go (Some e) q (inl (inl z)) = inl (record { row = z.row; is = find_front p w.ended rows z.row z.is; crashed = z.crashed })
    go (Some e) q (inl (inr z)) = inr (record { end = z.end; is = end_crashed w c site there h o kn z.end z.is; late = z.late })
    go (Some e) q (inr (i, b)) = inl (record { row = e; is = find_front p w.ended rows e q; crashed = pending_crashed w h o e q b })
    go None q (inl (inl z)) = absurd (none_not_some z.row (sym q ∙ z.is))
    go None q (inl (inr z)) = inr (record { end = z.end; is = end_crashed w c site there h o kn z.end z.is; late = z.late })
    go None q (inr (i, b)) = present i q b.end b.is

-- Start.
pub start_over : (w : World) (c : ClientId) (site : WorldClient) → site_of w c ≡ Some site → site.node.running ≡ false → LivesHold w → (o : LogOwner) → Over w o → Over (ev.with_site c (ev.started_site site) w) o
start_over w c site there r h o (inl z) = inl (record { row = z.row; is = z.is; crashed = z.crashed })
start_over w c site there r h o (inr b) = inr (record { end = b.end; is = end_started w c site there r h o b.end b.is; late = b.late })

-- a fact of what is pending, at an entry
pending_at : (P : LogOwner → Type 0) (es : List LogEntry) (e : LogEntry) → Has e es → PendingAll P es → log.is_pending e.fate ≡ true → P e.of
pending_at P [] e i h q = absurd i
pending_at P (x ∷ es) e (inl z) h q = subst (λ (y : LogEntry). P y.of) (sym z) (h.one (ap (λ (y : LogEntry). log.is_pending y.fate) (sym z) ∙ q))
pending_at P (x ∷ es) e (inr i) h q = pending_at P es e i h.rest q

pub owner_has : (es : List LogEntry) (e : LogEntry) → Has e es → Has e.of (map owner_of es)
owner_has [] e i = absurd i
owner_has (x ∷ es) e (inl q) = inl (ap owner_of q)
owner_has (x ∷ es) e (inr i) = inr (owner_has es e i)

pub crash_gone : (w : World) (c : ClientId) (site : WorldClient) → site_of w c ≡ Some site → LivesHold w → FatesAreKept w → GoneHold w → GoneHold (ev.crashes_client w c (Some site)).world
unfolding ev.crashes_client ev.marks ev.log_crashed log.drop_picked
crash_gone w c site e l f h =
    gone_known (Over v) (Over (ev.with_log (log.drop_from 1 (ev.is_of_crashed w c) (log.always causes.Crash) w.log) v)) (log.drop_from 1 (ev.is_of_crashed w c) (log.always causes.Crash) w.log)
    (λ o i z. kept v o _ (λ x. record { row = x.row; is = x.is; crashed = x.crashed }) (λ x. record { end = x.end; is = x.is; late = x.late }) z)
    (gone_drop (Over v) 1 (ev.is_of_crashed w c) (log.always causes.Crash) w.log
    (λ m x i q b. crash_over w c site e l x.of (l.known.owners x.of (owner_has w.log x i)) (inr (eqb-true x.of.client.0 c.0 (and_true (log.is_of_client c x.of) (not (ev.is_spared w m x.of)) b).0, pending_at (BeforeEnd w) w.log x i f q)))
    (gone_known (Over w) (Over v) w.log (λ o i z. crash_over w c site e l o (l.known.owners o i) (inl z)) h))
  where
    v : World
    v = ev.with_site c (ev.stopped_site site) (ev.with_crashed_lives site w)
