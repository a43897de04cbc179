-- Drops have a cause, through each change of the log.
use Rattle.st_lemmas.proofs.Words
use Words.{◌≡◌, ℕ, ◌+◌, ◌⊎◌, Bool, true, false, not, ◌&&◌, List, [], ◌∷◌, ◌++◌, ◌==◌, Some, refl, sym, ap, ◌∙◌, inl, inr, if◌then◌else◌, nat_le, map}
use Words.{list_any, list_all, eqb-true, eq-eqb, ClientId, ServerId, Life, FileId, PageNo, Cause, Fate, LogEntry, LogOwner, IssuedCommand, LeaseLife}
use Words.nodes
use Words.events
use Words.causes
use Words.fates
use Words.Keys.{same_client, same_server}
use Words.FlatLog as log
use Words.World.{World, WorldClient, lives_of}
use Words.Events as ev
use Words.Events.{last_write, present_life, lives_reached}
use Words.Safety as safety
use Words.Safety.{Step, ends_life_of, reports_failure, is_caused, has_cause, has_cause_for}
use Words.Lookups.{or_left, or_right, or_cases}
use Words.Tables.{and_true, and_both}
use Words.Tests.{any_same, any_with_last}
use Rattle.st_laws_pages.specs.Drops.Causes.{life_owner, CrashesKnown, CausesHold, CrashOwes, LivesOwe, AdvanceOwes, AdvancesOwe, FailedStay}

any_more : {A : Type 0} (p : A → Bool) (xs : List A) (x : A) → list_any p xs ≡ true → list_any p (xs ++ x ∷ []) ≡ true
any_more p [] x e = cc
any_more p (y ∷ ys) x e = go (or_cases (p y) (list_any p ys) e) (any_more p ys x)
  where
    go : (p y ≡ true) ⊎ (list_any p ys ≡ true) → (list_any p ys ≡ true → list_any p (ys ++ x ∷ []) ≡ true) → list_any p ((y ∷ ys) ++ x ∷ []) ≡ true
    go (inl q) r = or_left (p y) (list_any p (ys ++ x ∷ [])) q
    go (inr q) r = or_right (p y) (list_any p (ys ++ x ∷ [])) (r q)

-- causes last, as steps and commands are added
more_caused : (past : List Step) (x : Step) (v w : World) (e : LogEntry) → ((k : ℕ) → e.fate ≡ fates.Gone (causes.Failed k) → last_write w.commands e.of ≡ last_write v.commands e.of) → has_cause past v e ≡ true → has_cause (past ++ x ∷ []) w e ≡ true
more_caused past x v w e k h = go e.fate refl h
  where
    go : (f : Fate) → e.fate ≡ f → has_cause_for past v e.of f ≡ true → has_cause_for (past ++ x ∷ []) w e.of f ≡ true
    go fates.Pending q h = refl
    go fates.Hard q h = refl
    go (fates.Gone causes.Crash) q h = any_more (ends_life_of e.of) past x h
    go (fates.Gone (causes.Failed n)) q h = let z = and_true (list_any (reports_failure n) past) (last_write v.commands e.of == n) h in and_both _ _ (any_more (reports_failure n) past x z.0) (ap (λ m. m == n) (k n q) ∙ z.1)

pub caused_more : (past : List Step) (x : Step) (v w : World) (es : List LogEntry) → FailedStay v.commands w.commands es → list_all (has_cause past v) es ≡ true → list_all (has_cause (past ++ x ∷ []) w) es ≡ true
caused_more past x v w [] s h = refl
caused_more past x v w (e ∷ es) s h = let z = and_true (has_cause past v e) (list_all (has_cause past v) es) h in and_both (has_cause (past ++ x ∷ []) w e) _ (more_caused past x v w e s.one z.0) (caused_more past x v w es s.rest z.1)

pub same_failed : (cs : List IssuedCommand) (es : List LogEntry) → FailedStay cs cs es
same_failed cs [] = record {}
same_failed cs (e ∷ es) = record { one = λ k q. refl; rest = same_failed cs es }

-- one more entry that is not gone
pub caused_last : (past : List Step) (w : World) (es : List LogEntry) (e : LogEntry) → log.counts e.fate ≡ true → list_all (has_cause past w) es ≡ true → list_all (has_cause past w) (es ++ e ∷ []) ≡ true
caused_last past w [] e c h = and_both (has_cause past w e) true (go e.fate c) refl
  where
    go : (f : Fate) → log.counts f ≡ true → has_cause_for past w e.of f ≡ true
    go fates.Pending c = refl
    go fates.Hard c = refl
    go (fates.Gone d) c = cc
caused_last past w (y ∷ es) e c h = let z = and_true (has_cause past w y) (list_all (has_cause past w) es) h in and_both (has_cause past w y) _ z.0 (caused_last past w es e c z.1)

-- hardening
pub caused_harden : (past : List Step) (w : World) (n i : ℕ) (o : LogOwner) (es : List LogEntry) → list_all (has_cause past w) es ≡ true → list_all (has_cause past w) (log.harden_from n i o es) ≡ true
unfolding log.harden_from log.hardened log.harder_entry
caused_harden past w n i o [] h = refl
caused_harden past w n i o (e ∷ es) h = let z = and_true (has_cause past w e) (list_all (has_cause past w) es) h in and_both (has_cause past w (log.hardened i o n e)) _ (go (nat_le n i && log.same_owner e.of o) z.0) (caused_harden past w (n + 1) i o es z.1)
  where
    fated : (f : Fate) → has_cause_for past w e.of f ≡ true → has_cause_for past w e.of (log.harder f) ≡ true
    fated fates.Pending h = refl
    fated fates.Hard h = refl
    fated (fates.Gone d) h = h

    go : (b : Bool) → has_cause past w e ≡ true → has_cause past w (if b then record e { fate = log.harder e.fate } else e) ≡ true
    go true h = fated e.fate h
    go false h = h

-- a drop whose causes hold
abbrev pub PickedCaused : List Step → World → ℕ → (ℕ → LogOwner → Bool) → (FileId → PageNo → Cause) → List LogEntry → Type 0
PickedCaused past w n picked cause [] = Unit {0}
PickedCaused past w n picked cause (e ∷ es) =
    record { one : picked n e.of ≡ true → log.is_pending e.fate ≡ true → is_caused past w e.of (cause e.of.file e.of.page) ≡ true; rest : PickedCaused past w (n + 1) picked cause es }

pub caused_drop : (past : List Step) (w : World) (n : ℕ) (picked : ℕ → LogOwner → Bool) (cause : FileId → PageNo → Cause) (es : List LogEntry) → PickedCaused past w n picked cause es → list_all (has_cause past w) es ≡ true →
    list_all (has_cause past w) (log.drop_from n picked cause es) ≡ true
unfolding log.drop_from log.dropped log.lost_entry
caused_drop past w n picked cause [] p h = refl
caused_drop past w n picked cause (e ∷ es) p h =
    let z = and_true (has_cause past w e) (list_all (has_cause past w) es) h in and_both (has_cause past w (log.dropped picked cause n e)) _ (go (picked n e.of) refl z.0) (caused_drop past w (n + 1) picked cause es p.rest z.1)
  where
    fated : (f : Fate) → e.fate ≡ f → picked n e.of ≡ true → has_cause_for past w e.of f ≡ true → has_cause_for past w e.of (log.lost (cause e.of.file e.of.page) f) ≡ true
    fated fates.Pending q t h = p.one t (ap log.is_pending q)
    fated fates.Hard q t h = refl
    fated (fates.Gone d) q t h = h

    go : (b : Bool) → picked n e.of ≡ b → has_cause past w e ≡ true → has_cause past w (if b then record e { fate = log.lost (cause e.of.file e.of.page) e.fate } else e) ≡ true
    go true t h = fated e.fate refl t h
    go false t h = h

-- The cause of a crash looks only at client, server and life.
same_ends : (a b : LogOwner) (x : Step) → a.client ≡ b.client → a.file.server ≡ b.file.server → a.life ≡ b.life → ends_life_of a x ≡ ends_life_of b x
same_ends a b x c s l = ap (λ (k : ClientId). safety.is_crash_of k x.event && ((present_life x.before.world k a.file.server).0 == a.life.0)) c
    ∙ ap (λ (k : ServerId). safety.is_crash_of b.client x.event && ((present_life x.before.world b.client k).0 == a.life.0)) s
    ∙ ap (λ (k : Rattle.st_base.specs.declared.ids.Life.Life). safety.is_crash_of b.client x.event && ((present_life x.before.world b.client b.file.server).0 == k.0)) l

of_life : (l : LeaseLife) (o : LogOwner) (past : List Step) → ev.is_of_life_over l 0 o ≡ true → list_any (ends_life_of (life_owner l)) past ≡ true → list_any (ends_life_of o) past ≡ true
of_life l o past s h =
    let a = and_true (same_client o.client l.client) (same_server o.file.server l.server && (o.life.0 == l.life.0)) s in
    let b = and_true (same_server o.file.server l.server) (o.life.0 == l.life.0) a.1 in
    any_same (ends_life_of o) (ends_life_of (life_owner l)) past
    (λ x. same_ends o (life_owner l) x (ap (λ n. record { 0 = n }) (eqb-true o.client.0 l.client.0 a.0)) (ap (λ n. record { 0 = n }) (eqb-true o.file.server.0 l.server.0 b.0)) (ap (λ n. record { 0 = n }) (eqb-true o.life.0 l.life.0 b.1))) ∙ h

-- Advance: the drops of the lives whose ends are reached.
pending_drop : (c : Cause) (f : Fate) → log.is_pending (log.lost c f) ≡ true → log.is_pending f ≡ true
pending_drop c fates.Pending e = cc
pending_drop c fates.Hard e = cc
pending_drop c (fates.Gone d) e = cc

owes_drop : (past : List Step) (cs : List IssuedCommand) (l : LeaseLife) (n : ℕ) (picked : ℕ → LogOwner → Bool) (cause : FileId → PageNo → Cause) (es : List LogEntry) → AdvanceOwes past cs l es → AdvanceOwes past cs l (log.drop_from n picked cause es)
unfolding log.drop_from log.dropped log.lost_entry
owes_drop past cs l n picked cause [] h = h
owes_drop past cs l n picked cause (e ∷ es) h = go (picked n e.of) (owes_drop past cs l (n + 1) picked cause es h.rest)
  where
    go : (b : Bool) → AdvanceOwes past cs l (log.drop_from (n + 1) picked cause es) → AdvanceOwes past cs l ((if b then record e { fate = log.lost (cause e.of.file e.of.page) e.fate } else e) ∷ log.drop_from (n + 1) picked cause es)
    go true r = record { one = λ c s p. h.one c s (pending_drop (cause e.of.file e.of.page) e.fate p); rest = r }
    go false r = record { one = h.one; rest = r }

-- the same of several lives
abbrev pub AllOwe : List Step → List IssuedCommand → List LeaseLife → List LogEntry → Type 0
AllOwe past cs [] es = Unit {0}
AllOwe past cs (l ∷ ls) es = record { one : AdvanceOwes past cs l es; known : l.crashed ≡ true → list_any (ends_life_of (life_owner l)) past ≡ true; rest : AllOwe past cs ls es }

all_drop : (past : List Step) (cs : List IssuedCommand) (ls : List LeaseLife) (picked : ℕ → LogOwner → Bool) (cause : FileId → PageNo → Cause) (es : List LogEntry) → AllOwe past cs ls es → AllOwe past cs ls (log.drop_from 1 picked cause es)
all_drop past cs [] picked cause es h = h
all_drop past cs (l ∷ ls) picked cause es h = record { one = owes_drop past cs l 1 picked cause es h.one; known = h.known; rest = all_drop past cs ls picked cause es h.rest }

all_of : (past : List Step) (w : World) (ls : List LeaseLife) → AdvancesOwe past w ls → AllOwe past w.commands ls w.log
all_of past w [] h = record {}
all_of past w (l ∷ ls) h = record { one = h.one; known = h.known; rest = all_of past w ls h.rest }

ended_picked : (past : List Step) (w : World) (l : LeaseLife) (n : ℕ) (es : List LogEntry) → AdvanceOwes past w.commands l es → (l.crashed ≡ true → list_any (ends_life_of (life_owner l)) past ≡ true) → PickedCaused past w n (ev.is_of_life_over l) (ev.cause_at_end w.commands l) es
unfolding ev.cause_at_end
ended_picked past w l n [] h k = record {}
ended_picked past w l n (e ∷ es) h k = record { one = λ s p. go l.crashed refl s p; rest = ended_picked past w l (n + 1) es h.rest k }
  where
    owner_is : ev.is_of_life_over l 0 e.of ≡ true → ev.owner_in l e.of.file e.of.page ≡ e.of
    owner_is s =
        let a = and_true (same_client e.of.client l.client) (same_server e.of.file.server l.server && (e.of.life.0 == l.life.0)) s in
        let b = and_true (same_server e.of.file.server l.server) (e.of.life.0 == l.life.0) a.1 in
        sym (ap (λ n. log.owner (record { 0 = n }) e.of.life e.of.file e.of.page) (eqb-true e.of.client.0 l.client.0 a.0) ∙ ap (λ n. log.owner l.client (record { 0 = n }) e.of.file e.of.page) (eqb-true e.of.life.0 l.life.0 b.1))

    go : (c : Bool) → l.crashed ≡ c → ev.is_of_life_over l 0 e.of ≡ true → log.is_pending e.fate ≡ true →
        is_caused past w e.of (if c then causes.Crash else causes.Failed (last_write w.commands (ev.owner_in l e.of.file e.of.page))) ≡ true
    go true q s p = of_life l e.of past s (k q)
    go false q s p =
        let o = owner_is s in
        and_both _ _ (ap (λ z. list_any (reports_failure (last_write w.commands z)) past) o ∙ h.one q s p) (eq-eqb _ _ (ap (last_write w.commands) (sym o)))

pub ended_caused : (past : List Step) (w : World) (ls : List LeaseLife) (es : List LogEntry) → AllOwe past w.commands ls es → list_all (has_cause past w) es ≡ true → list_all (has_cause past w) (ev.log_ended_all w.commands ls es) ≡ true
unfolding ev.log_ended_all ev.log_ended log.drop_picked
ended_caused past w [] es h c = c
ended_caused past w (l ∷ ls) es h c =
    ended_caused past w ls (ev.log_ended w.commands l es) (all_drop past w.commands ls (ev.is_of_life_over l) (ev.cause_at_end w.commands l) es h.rest)
    (caused_drop past w 1 (ev.is_of_life_over l) (ev.cause_at_end w.commands l) es (ended_picked past w l 1 es h.one h.known) c)

-- Crash.
known_any : (past : List Step) (o : LogOwner) (es : List LeaseLife) → CrashesKnown past es → list_any (λ (l : LeaseLife). l.crashed && ev.is_of_life_over l 0 o) es ≡ true → list_any (ends_life_of o) past ≡ true
known_any past o [] k e = cc
known_any past o (l ∷ ls) k e = go (or_cases (l.crashed && ev.is_of_life_over l 0 o) _ e) (known_any past o ls k.rest)
  where
    go : ((l.crashed && ev.is_of_life_over l 0 o) ≡ true) ⊎ (list_any (λ (l : LeaseLife). l.crashed && ev.is_of_life_over l 0 o) ls ≡ true) → (list_any (λ (l : LeaseLife). l.crashed && ev.is_of_life_over l 0 o) ls ≡ true → list_any (ends_life_of o) past ≡ true) → list_any (ends_life_of o) past ≡ true
    go (inl q) r = let z = and_true l.crashed (ev.is_of_life_over l 0 o) q in of_life l o past z.1 (k.one z.0)
    go (inr q) r = r q

crash_picked : (past : List Step) (x : Step) (v w : World) (c : ClientId) (n : ℕ) (es : List LogEntry) → x.event ≡ events.Crash (nodes.Client c) → ((k : ClientId) (s : ServerId) → present_life x.before.world k s ≡ present_life w k s) → CrashesKnown past w.ended → CrashOwes w es c →
    PickedCaused (past ++ x ∷ []) v n (ev.is_of_crashed w c) (log.always causes.Crash) es
crash_picked past x v w c n [] e b k h = record {}
crash_picked past x v w c n (y ∷ es) e b k h = record { one = λ s p. let z = and_true (log.is_of_client c y.of) (not (ev.is_spared w n y.of)) s in go z.0 (h.one z.0 p); rest = crash_picked past x v w c (n + 1) es e b k h.rest }
  where
    its : log.is_of_client c y.of ≡ true → (present_life w c y.of.file.server).0 ≡ y.of.life.0 → ends_life_of y.of x ≡ true
    its s l =
        let i : y.of.client ≡ c = ap (λ n. record { 0 = n }) (eqb-true y.of.client.0 c.0 s) in
        and_both (safety.is_crash_of y.of.client x.event) _ (ap (safety.is_crash_of y.of.client) e ∙ s)
        (eq-eqb _ _ (ap (λ (z : Life). z.0) (b y.of.client y.of.file.server) ∙ ap (λ (z : ClientId). (present_life w z y.of.file.server).0) i ∙ l))

    go : log.is_of_client c y.of ≡ true → ((present_life w c y.of.file.server).0 ≡ y.of.life.0) ⊎ (list_any (λ l. l.crashed && ev.is_of_life_over l 0 y.of) w.ended ≡ true) → list_any (ends_life_of y.of) (past ++ x ∷ []) ≡ true
    go s (inl l) = any_with_last (ends_life_of y.of) past x (its s l)
    go s (inr l) = any_more (ends_life_of y.of) past x (known_any past y.of w.ended k l)

pub crash_caused : (past : List Step) (x : Step) (w : World) (c : ClientId) (site : WorldClient) → x.event ≡ events.Crash (nodes.Client c) → ((k : ClientId) (s : ServerId) → present_life x.before.world k s ≡ present_life w k s) → CrashOwes w w.log c → CausesHold past w →
    list_all (has_cause (past ++ x ∷ []) (ev.crashes_client w c (Some site)).world) (ev.crashes_client w c (Some site)).world.log ≡ true
unfolding ev.crashes_client ev.marks ev.log_crashed log.drop_picked
crash_caused past x w c site e b o h =
    let v : World = (ev.crashes_client w c (Some site)).world in
    caused_drop (past ++ x ∷ []) v 1 (ev.is_of_crashed w c) (log.always causes.Crash) w.log (crash_picked past x v w c 1 w.log e b h.crashes o) (caused_more past x w v w.log (same_failed w.commands w.log) h.caused)

pub known_more : (past : List Step) (x : Step) (es : List LeaseLife) → CrashesKnown past es → CrashesKnown (past ++ x ∷ []) es
known_more past x [] k = k
known_more past x (e ∷ es) k = record { one = λ c. any_more (ends_life_of (life_owner e)) past x (k.one c); rest = known_more past x es k.rest }

pub known_both : (past : List Step) (es fs : List LeaseLife) → CrashesKnown past es → CrashesKnown past fs → CrashesKnown past (es ++ fs)
known_both past [] fs a b = b
known_both past (e ∷ es) fs a b = record { one = a.one; rest = known_both past es fs a.rest b }

known_lives : (past : List Step) (x : Step) (w : World) (c : ClientId) (es : List LeaseLife) → x.event ≡ events.Crash (nodes.Client c) → ((k : ClientId) (s : ServerId) → present_life x.before.world k s ≡ present_life w k s) → LivesOwe w c es → CrashesKnown (past ++ x ∷ []) (map ev.crashed_life es)
known_lives past x w c [] e b l = record {}
known_lives past x w c (y ∷ es) e b l =
    record {
      one = λ q. any_with_last (ends_life_of (life_owner (ev.crashed_life y))) past x
          (and_both (safety.is_crash_of y.client x.event) _ (ap (safety.is_crash_of y.client) e ∙ eq-eqb y.client.0 c.0 (ap (λ (z : ClientId). z.0) l.client))
          (eq-eqb _ _ (ap (λ (z : Life). z.0) (b y.client y.server) ∙ ap (λ (z : ClientId). (present_life w z y.server).0) l.client ∙ l.life)));
      rest = known_lives past x w c es e b l.rest;
    }

pub crash_known : (past : List Step) (x : Step) (w : World) (c : ClientId) (site : WorldClient) → x.event ≡ events.Crash (nodes.Client c) → ((k : ClientId) (s : ServerId) → present_life x.before.world k s ≡ present_life w k s) → LivesOwe w c (lives_of site.node.state) → CrashesKnown past w.ended →
    CrashesKnown (past ++ x ∷ []) (ev.crashes_client w c (Some site)).world.ended
unfolding ev.crashes_client ev.marks
crash_known past x w c site e b l k = known_both (past ++ x ∷ []) w.ended (map ev.crashed_life (lives_of site.node.state)) (known_more past x w.ended k) (known_lives past x w c (lives_of site.node.state) e b l)

-- Advance.
pub advance_causes : (past : List Step) (x : Step) (w : World) (steps : List ℕ) → AdvancesOwe past w (lives_reached w steps) → CausesHold past w → CausesHold (past ++ x ∷ []) (ev.advances w steps).world
unfolding ev.advances ev.marks
advance_causes past x w steps o h =
    let v : World = (ev.advances w steps).world in
    record {
      caused = caused_more past x w v (ev.log_ended_all w.commands (lives_reached w steps) w.log) (same_failed w.commands _) (ended_caused past w (lives_reached w steps) w.log (all_of past w (lives_reached w steps) o) h.caused);
      crashes = known_more past x w.ended h.crashes;
    }
