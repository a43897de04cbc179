-- The volume takes what an advance drops: each entry of a life that is over has its cause.
use Rattle.st_lemmas.proofs.Words
use Words.{◌≡◌, ◌≤◌, ℕ, zero, suc, ◌+◌, ◌&&◌, ◌==◌, Bool, true, false, List, [], ◌∷◌, Some, None, refl, sym, ap, ◌∙◌, subst, inl, inr, arith}
use Words.{if◌then◌else◌, nat_lt, option_map, unwrap_or, slice_get, eq-eqb, eqb-true, ClientId, FileId, PageNo, Fate, LogEntry, LogOwner, LeaseLife}
use Words.causes
use Words.events
use Words.fates
use Words.Admissible as adm
use Words.Events as ev
use Words.Events.{counted, is_change, latest, last_write}
use Words.FlatLog as log
use Words.Keys.{same_client, same_file, same_page, same_server}
use Words.Lists.{Has}
use Words.Lookups.{some_is}
use Words.Members.{some_member_passes}
use Words.Numbers.{get_has}
use Words.Safety.{Step}
use Words.Tables.{and_both, and_true, some_passes}
use Words.World.{World, numbered}
use Rattle.std.proofs.lemmas.Bool.{le-leb}
use Rattle.st_laws_pages.specs.Disks.Obligations.{FatesHold}
use Rattle.st_laws_pages.specs.Flush.Flush.{FlushHold, LastFailed}
use Rattle.st_laws_pages.specs.Writes.Writes.{ListsAgree}
use Rattle.st_laws_pages.proofs.Drops.Dropping.{reached_alive, reached_crashed, reached_failed}
use Rattle.st_laws_volume.specs.FateMarks.{AreMarked, AreRemembered, is_crash_of, is_crashed_life}
use Rattle.st_laws_volume.specs.Logs.{AreSame, IsLogOf, IsSame, fate_of}
use Rattle.st_laws_volume.specs.Seen.{cause_of, number_of}
use Rattle.st_laws_volume.specs.Witness.{of_lines}
use Rattle.st_laws_volume.proofs.FailureLives.{pending_at}
use Rattle.st_laws_volume.proofs.FateLines.{IsTaken, MayEnd, MayEndAll, fates_taken}
use Rattle.st_volume.specs.Pages.{Entry, is_cause, is_open}
use Rattle.st_volume.specs.Volume.{Volume, run}

-- An entry as it was and after lives ended, and the volume's.
record MayBe (w : World) (o g : LogEntry) (e : Entry) : Type 0 where
  of : g.of ≡ o.of
  pending : g.fate ≡ fates.Pending → o.fate ≡ fates.Pending
  may : MayEnd w o.fate g.fate e

abbrev AllMay : World → List LogEntry → List LogEntry → List Entry → Type 0
AllMay w [] gs es = Unit {0}
AllMay w (o ∷ os) [] es = Unit {0}
AllMay w (o ∷ os) (g ∷ gs) [] = ⊥
AllMay w (o ∷ os) (g ∷ gs) (e ∷ es) = MayBe w o g e × AllMay w os gs es

all_may : (w : World) (os gs : List LogEntry) (es : List Entry) → AllMay w os gs es → MayEndAll w os gs es
all_may w [] gs es h = tt
all_may w (o ∷ os) [] es h = tt
all_may w (o ∷ os) (g ∷ gs) [] h = absurd h
all_may w (o ∷ os) (g ∷ gs) (e ∷ es) h = (h.0.may, all_may w os gs es h.1)

same_all : (w : World) (os : List LogEntry) (es : List Entry) → AreSame os es → AllMay w os os es
same_all w [] es h = tt
same_all w (o ∷ os) [] h = absurd h
same_all w (o ∷ os) (e ∷ es) h = (record { of = refl; pending = λ p. p; may = go o.fate }, same_all w os es h.1)
  where
    go : (f : Fate) → MayEnd w f f e
    go fates.Pending = tt
    go fates.Hard = tt
    go (fates.Gone cause) = tt

-- What is owed at the end of a life: a pending entry of it is open in the volume, and has its cause.
abbrev Owed : World → LeaseLife → LogEntry → Entry → Type 0
Owed w l o e =
    o.fate ≡ fates.Pending → ev.is_of_life_over l 0 o.of ≡ true →
    (is_open e.fate && is_cause (cause_of w (ev.cause_at_end w.commands l o.of.file o.of.page)) e) ≡ true

abbrev AllOwed : World → LeaseLife → List LogEntry → List Entry → Type 0
AllOwed w l [] es = Unit {0}
AllOwed w l (o ∷ os) [] = Unit {0}
AllOwed w l (o ∷ os) (e ∷ es) = Owed w l o e × AllOwed w l os es

all_owed : (w : World) (l : LeaseLife) (os : List LogEntry) (es : List Entry) → AreSame os es →
    ((n : ℕ) (o : LogEntry) (e : Entry) → slice_get os n ≡ Some o → slice_get es n ≡ Some e → IsSame o e → Owed w l o e) → AllOwed w l os es
all_owed w l [] es h f = tt
all_owed w l (o ∷ os) [] h f = tt
all_owed w l (o ∷ os) (e ∷ es) h f = (f 0 o e refl refl h.0, all_owed w l os es h.1 (λ n. f (suc n)))

-- One life ends, and all do.
module _ (w : World) where
  ends_one : (l : LeaseLife) (n : ℕ) (o g : LogEntry) (e : Entry) → MayBe w o g e → Owed w l o e →
      MayBe w o (log.dropped (ev.is_of_life_over l) (ev.cause_at_end w.commands l) n g) e
  unfolding log.dropped log.lost_entry
  ends_one l n o g e h owed = go (ev.is_of_life_over l n g.of) refl g.fate refl
    where
      lost : log.is_pending g.fate ≡ true → MayBe w o g e → ev.is_of_life_over l n g.of ≡ true → (f : Fate) → g.fate ≡ f →
          MayBe w o (record g { fate = log.lost (ev.cause_at_end w.commands l g.of.file g.of.page) f }) e
      lost p h b fates.Pending q =
          record {
            of = h.of;
            pending = λ z. cc z;
            may =
                subst (λ f. MayEnd w f (fates.Gone (ev.cause_at_end w.commands l g.of.file g.of.page)) e) (sym (h.pending q))
                (subst (λ (k : LogOwner). (is_open e.fate && is_cause (cause_of w (ev.cause_at_end w.commands l k.file k.page)) e) ≡ true) (sym h.of)
                (owed (h.pending q) (ap (ev.is_of_life_over l 0) (sym h.of) ∙ b)));
          }
      lost p h b fates.Hard q = cc (sym (ap log.is_pending q) ∙ p)
      lost p h b (fates.Gone cause) q = cc (sym (ap log.is_pending q) ∙ p)

      same : (f : Fate) → g.fate ≡ f → MayBe w o (record g { fate = f }) e
      same f q = record { of = h.of; pending = λ z. h.pending (q ∙ z); may = subst (λ k. MayEnd w o.fate k e) q h.may }

      go : (b : Bool) → ev.is_of_life_over l n g.of ≡ b → (f : Fate) → g.fate ≡ f →
          MayBe w o (if b then record g { fate = log.lost (ev.cause_at_end w.commands l g.of.file g.of.page) g.fate } else g) e
      go false b f q = h
      go true b f q =
          subst (λ k. MayBe w o (record g { fate = log.lost (ev.cause_at_end w.commands l g.of.file g.of.page) k }) e) (sym q) (at f q)
        where
          at : (f : Fate) → g.fate ≡ f → MayBe w o (record g { fate = log.lost (ev.cause_at_end w.commands l g.of.file g.of.page) f }) e
          at fates.Pending q = lost (ap log.is_pending q) h b fates.Pending q
          at fates.Hard q = same fates.Hard q
          at (fates.Gone cause) q = same (fates.Gone cause) q

  ends_from : (l : LeaseLife) (n : ℕ) (os gs : List LogEntry) (es : List Entry) → AllMay w os gs es → AllOwed w l os es →
      AllMay w os (log.drop_from n (ev.is_of_life_over l) (ev.cause_at_end w.commands l) gs) es
  unfolding log.drop_from
  ends_from l n [] gs es h owed = tt
  ends_from l n (o ∷ os) [] es h owed = tt
  ends_from l n (o ∷ os) (g ∷ gs) [] h owed = absurd h
  ends_from l n (o ∷ os) (g ∷ gs) (e ∷ es) h owed = (ends_one l n o g e h.0 owed.0, ends_from l (n + 1) os gs es h.1 owed.1)

  ends_all : (ls : List LeaseLife) (os gs : List LogEntry) (es : List Entry) → ((l : LeaseLife) → Has l ls → AllOwed w l os es) → AllMay w os gs es →
      AllMay w os (ev.log_ended_all w.commands ls gs) es
  unfolding ev.log_ended_all ev.log_ended log.drop_picked
  ends_all [] os gs es owed h = h
  ends_all (l ∷ ls) os gs es owed h =
      ends_all ls os (ev.log_ended w.commands l gs) es (λ k i. owed k (inr i)) (ends_from l 1 os gs es h (owed l (inl refl)))

-- A client's entry to a page is no later than its latest one there.
latest_up : (c : ClientId) (f : FileId) (p : PageNo) (number before : ℕ) (es : List LogEntry) → before ≤ number → before ≤ ev.latest_from number before c f p es
unfolding ev.latest_from ev.latest_at
latest_up c f p number before [] l = omega arith
latest_up c f p number before (e ∷ es) l =
    go (ev.is_entry_of c f p e) (latest_up c f p (number + 1) number es (omega arith)) (latest_up c f p (number + 1) before es (omega (arith, l)))
  where
    go : (b : Bool) → number ≤ ev.latest_from (number + 1) number c f p es → before ≤ ev.latest_from (number + 1) before c f p es →
        before ≤ ev.latest_from (number + 1) (if b then number else before) c f p es
    go true x y = omega (arith, x, l)
    go false x y = y

latest_above : (c : ClientId) (f : FileId) (p : PageNo) (number before : ℕ) (es : List LogEntry) (n : ℕ) (e : LogEntry) → slice_get es n ≡ Some e →
    ev.is_entry_of c f p e ≡ true → number + n ≤ ev.latest_from number before c f p es
unfolding ev.latest_from ev.latest_at
latest_above c f p number before [] n e i q = cc i
latest_above c f p number before (x ∷ es) zero e i q =
    let z = latest_up c f p (number + 1) number es (omega arith) in
    subst (λ b. number + 0 ≤ ev.latest_from (number + 1) (if b then number else before) c f p es) (sym (ap (ev.is_entry_of c f p) (some_is i) ∙ q))
    (omega (arith, z))
latest_above c f p number before (x ∷ es) (suc n) e i q =
    let z = latest_above c f p (number + 1) (ev.latest_at c f p number before x) es n e i q in omega (arith, z)

own_entry : (o : LogOwner) (e : LogEntry) → e.of ≡ o → ev.is_entry_of o.client o.file o.page e ≡ true
own_entry o e q =
    and_both (same_client e.of.client o.client) (same_file e.of.file o.file && same_page e.of.page o.page)
    (eq-eqb e.of.client.0 o.client.0 (ap (λ (k : LogOwner). k.client.0) q))
    (and_both (same_file e.of.file o.file) (same_page e.of.page o.page)
    (and_both (same_server e.of.file.server o.file.server) (e.of.file.ino == o.file.ino)
    (eq-eqb e.of.file.server.0 o.file.server.0 (ap (λ (k : LogOwner). k.file.server.0) q))
    (eq-eqb e.of.file.ino o.file.ino (ap (λ (k : LogOwner). k.file.ino) q)))
    (eq-eqb e.of.page.0 o.page.0 (ap (λ (k : LogOwner). k.page.0) q)))

pub upto_latest : (es : List LogEntry) (n : ℕ) (e : LogEntry) → slice_get es n ≡ Some e → n + 1 ≤ latest es e.of.client e.of.file e.of.page
unfolding latest
upto_latest es n e i = let z = latest_above e.of.client e.of.file e.of.page 1 0 es n e i (own_entry e.of e refl) in omega (arith, z)

-- marks, by the place of an entry
pub marked_at : (ended : List LeaseLife) (os : List LogEntry) (es : List Entry) → AreMarked ended os es → (n : ℕ) (o : LogEntry) (e : Entry) →
    slice_get os n ≡ Some o → slice_get es n ≡ Some e → is_change o ≡ true → is_crashed_life ended o.of ≡ true → e.crashed ≡ true
marked_at ended [] es h n o e i j c q = cc i
marked_at ended (x ∷ os) [] h n o e i j c q = cc j
marked_at ended (x ∷ os) (y ∷ es) h zero o e i j c q =
    ap (λ (z : Entry). z.crashed) (sym (some_is j)) ∙ h.0 (ap is_change (some_is i) ∙ c) (ap (λ (z : LogEntry). is_crashed_life ended z.of) (some_is i) ∙ q)
marked_at ended (x ∷ os) (y ∷ es) h (suc n) o e i j c q = marked_at ended os es h.1 n o e i j c q

-- An advance.
module _ (past : List Step) (w : World) (increments : List ℕ) (r : adm.refusal (counted w) (events.Advance increments) ≡ None) (f : FatesHold (counted w))
    (flush : FlushHold past (counted w)) (agree : ListsAgree (counted w)) (v : Volume) (a : IsLogOf w.log v) (marked : AreMarked w.ended w.log v.log) (remembered : AreRemembered past w v) where
  module _ (l : LeaseLife) (i : Has l (ev.lives_reached (counted w) increments)) (n : ℕ) (o : LogEntry) (e : Entry) (at : slice_get w.log n ≡ Some o)
      (there : slice_get v.log n ≡ Some e) (s : IsSame o e) (p : o.fate ≡ fates.Pending) (its : ev.is_of_life_over l 0 o.of ≡ true) where
    record OfLife : Type 0 where
      client : l.client ≡ o.of.client
      server : l.server ≡ o.of.file.server
      life : l.life ≡ o.of.life

    of_life : OfLife
    of_life =
        let x = and_true (same_client o.of.client l.client) (same_server o.of.file.server l.server && (o.of.life.0 == l.life.0)) its in
        let y = and_true (same_server o.of.file.server l.server) (o.of.life.0 == l.life.0) x.1 in
        record {
          client = ap (λ n. record { 0 = n }) (sym (eqb-true o.of.client.0 l.client.0 x.0));
          server = ap (λ n. record { 0 = n }) (sym (eqb-true o.of.file.server.0 l.server.0 y.0));
          life = ap (λ n. record { 0 = n }) (sym (eqb-true o.of.life.0 l.life.0 y.1));
        }

    change : is_change o ≡ true
    change = s.change (ap log.is_pending p)

    -- a crash ended it
    by_crash : l.crashed ≡ true → e.crashed ≡ true
    by_crash q =
        marked_at w.ended w.log v.log marked n o e at there change
        (some_passes (is_crash_of o.of) w.ended l (reached_crashed past (counted w) increments r f flush agree l i q)
        (and_both l.crashed (ev.is_of_life_over l 0 o.of) q its))

    -- or its client was told of a failed write
    module _ (q : l.crashed ≡ false) where
      failed : (number : ℕ) × LastFailed past w.commands w.log o.of number
      failed = pending_at (λ k. ev.is_of_life_over l 0 k ≡ true → (number : ℕ) × LastFailed past w.commands w.log k number) w.log o (get_has w.log n o at)
          (reached_failed past (counted w) increments r f flush agree l i q) p its

      spared : (b : Bool) → is_crashed_life w.ended o.of ≡ b → b ≡ false
      spared false c = refl
      spared true c = absurd (go (some_member_passes (is_crash_of o.of) w.ended c))
        where
          go : (x : LeaseLife) × Has x w.ended × (is_crash_of o.of x ≡ true) → ⊥
          go (x, j, z) =
              let b = and_true x.crashed (ev.is_of_life_over x 0 o.of) z in
              let y = and_true (same_client o.of.client x.client) (same_server o.of.file.server x.server && (o.of.life.0 == x.life.0)) b.1 in
              let u = and_true (same_server o.of.file.server x.server) (o.of.life.0 == x.life.0) y.1 in
              reached_alive past (counted w) increments r f flush agree l i q x j b.0
              (ap (λ n. record { 0 = n }) (sym (eqb-true o.of.client.0 x.client.0 y.0)) ∙ sym of_life.client)
              (ap (λ n. record { 0 = n }) (sym (eqb-true o.of.file.server.0 x.server.0 u.0)) ∙ sym of_life.server)
              (ap (λ n. record { 0 = n }) (sym (eqb-true o.of.life.0 x.life.0 u.1)) ∙ sym of_life.life)

      owner_is : ev.owner_in l o.of.file o.of.page ≡ o.of
      owner_is =
          ap (λ c. log.owner c l.life o.of.file o.of.page) of_life.client ∙ ap (λ k. log.owner o.of.client k o.of.file o.of.page) of_life.life

      cause_is : Some (unwrap_or (option_map number_of (numbered w.commands (last_write w.commands (ev.owner_in l o.of.file o.of.page)))) 0) ≡ Some failed.0
      cause_is =
          ap (λ o. Some (unwrap_or o 0))
          (ap (λ k. option_map number_of (numbered w.commands (last_write w.commands k))) owner_is
          ∙ (ap (option_map number_of) failed.1.is ∙ ap (λ n. Some n) failed.1.number_is))

      above : (n : ℕ) → 1 ≤ n → nat_lt 0 n ≡ true
      above n l = le-leb 1 n l

      e_failed : e.failed ≡ failed.0
      e_failed =
          remembered n o e at there failed.1.command _ p (spared (is_crashed_life w.ended o.of) refl) failed.1.is failed.1.carries
          (upto_latest w.log n o at) failed.1.told
          ∙ failed.1.number_is

      by_failure : is_cause (Some failed.0) e ≡ true
      by_failure = and_both (nat_lt 0 failed.0) (e.failed == failed.0) (above failed.0 failed.1.first) (eq-eqb e.failed failed.0 e_failed)

    cause : is_cause (cause_of w (ev.cause_at_end w.commands l o.of.file o.of.page)) e ≡ true
    unfolding ev.cause_at_end
    cause = go l.crashed refl
      where
        go : (b : Bool) → l.crashed ≡ b →
            is_cause (cause_of w (if b then causes.Crash else causes.Failed (last_write w.commands (ev.owner_in l o.of.file o.of.page)))) e ≡ true
        go true q = by_crash q
        go false q = subst (λ c. is_cause c e ≡ true) (sym (cause_is q)) (by_failure q)

    owed : (is_open e.fate && is_cause (cause_of w (ev.cause_at_end w.commands l o.of.file o.of.page)) e) ≡ true
    owed = and_both (is_open e.fate) _ (ap is_open (s.fate ∙ ap fate_of p)) cause

  pub advance_lines : IsTaken (run (of_lines w (ev.advances (counted w) increments).seen) v)
  unfolding ev.advances ev.marks
  advance_lines =
      fates_taken w w.log (ev.log_ended_all w.commands (ev.lives_reached (counted w) increments) w.log) [] v.log v refl a.lines
      (all_may w w.log (ev.log_ended_all w.commands (ev.lives_reached (counted w) increments) w.log) v.log
      (ends_all w (ev.lives_reached (counted w) increments) w.log w.log v.log
      (λ l i. all_owed w l w.log v.log a.entries (λ n o e at there s p its. owed l i n o e at there s p its))
      (same_all w w.log v.log a.entries)))
