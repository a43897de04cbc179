-- Grants, demands and replies.
use Rattle.st_lemmas.proofs.Words
use Words.{◌≡◌, ℕ, ◌<◌, ◌≤◌, Bool, true, false, List, [], ◌∷◌, ◌++◌, Option, Some, None, refl, sym, ap, ◌∙◌, subst, inl, inr, arith, if◌then◌else◌, ltb-true}
use Words.{leb-true, find, filter, nat_le, unwrap_or, option_map, is_some, GrantNo, Mode, HeldLock, SeenGrant, DemandedFile}
use Words.modes
use Words.ClientLocks as locks
use Words.ClientLocks.{lock_of, seen_of, g_seen, no_grant, is_lock_on, is_seen_on, with_lock, without_lock, with_seen, held_lock}
use Words.ClientState as st
use Words.ClientState.{ClientSession, Turn, send, with_session}
use Words.ClientReplies as cr
use Words.Keys.{put}
use Words.Lookups.{some_is, or_false}
use Rattle.st_base.specs.Mode.{number_of}
use Rattle.st_rules.specs.declared.client.LockWait.{LockWait}
use Rattle.st_protocol.specs.Assoc.{Config, no_lock, Msg, msg, In, upd, Installs, Declines, AskedOfNone, Asked, Moves, Stays}
use Rattle.st_protocol.specs.Assoc as net
use Rattle.st_laws_refine.specs.Views.Halves.{held_at, client_of}
use Rattle.st_laws_refine.specs.Client.Invariants.{at, Beside, Told, AllTold, HaveModes, Ready, Result, Goes}
use Rattle.st_laws_refine.proofs.Views.Places.{put_at, cut_at}
use Rattle.st_laws_refine.proofs.Views.Moves.{one_to}
use Rattle.st_laws_refine.proofs.Client.Goes.{frame_same, frame_send, said_both, waiting_both, ready_more, alive, goes_same, goes_then, if_within}

pub lock_set : (rows : List HeldLock) (l : HeldLock) (d : ℕ) → held_at (find (is_lock_on d) (with_lock l rows)) ≡ upd (λ d. held_at (find (is_lock_on d) rows)) l.ino (held_at (Some l)) d
lock_set rows l d = put_at (λ (r : HeldLock). r.ino) held_at l rows d

pub lock_cut : (rows : List HeldLock) (i d : ℕ) → held_at (find (is_lock_on d) (without_lock i rows)) ≡ upd (λ d. held_at (find (is_lock_on d) rows)) i no_lock d
lock_cut rows i d = cut_at (λ (r : HeldLock). r.ino) held_at i rows d

abbrev seen_by : Option SeenGrant → ℕ
seen_by o = (unwrap_or (option_map g_seen o) no_grant).0

pub seen_set : (seen : List SeenGrant) (i : ℕ) (g : GrantNo) (d : ℕ) → seen_by (find (is_seen_on d) (with_seen i g seen)) ≡ upd (λ d. seen_by (find (is_seen_on d) seen)) i g.0 d
seen_set seen i g d = put_at (λ (r : SeenGrant). r.ino) seen_by (record { ino = i; g = g }) seen d

pub told_filter : (life epoch : ℕ) (q : DemandedFile → Bool) (ds : List DemandedFile) (N : List Msg) → AllTold life epoch ds N → AllTold life epoch (filter q ds) N
told_filter life epoch q [] N s = s
told_filter life epoch q (d ∷ ds) N s = go (q d) (told_filter life epoch q ds N s.rest)
  where
    go : (b : Bool) → AllTold life epoch (filter q ds) N → AllTold life epoch (if b then d ∷ filter q ds else filter q ds) N
    go true r = record { one = s.one; rest = r }
    go false r = r

pub told_last : (life epoch : ℕ) (ds : List DemandedFile) (d : DemandedFile) (N : List Msg) → AllTold life epoch ds N → Told life epoch d N → AllTold life epoch (ds ++ d ∷ []) N
told_last life epoch [] d N s t = record { one = t; rest = record {} }
told_last life epoch (x ∷ ds) d N s t = record { one = s.one; rest = told_last life epoch ds d N s.rest t }

pub modes_filter : (q : HeldLock → Bool) (ls : List HeldLock) → HaveModes ls → HaveModes (filter q ls)
modes_filter q [] s = s
modes_filter q (l ∷ ls) s = go (q l) (modes_filter q ls s.rest)
  where
    go : (b : Bool) → HaveModes (filter q ls) → HaveModes (if b then l ∷ filter q ls else filter q ls)
    go true r = record { one = s.one; rest = r }
    go false r = r

pub modes_put : (q : HeldLock → Bool) (l : HeldLock) (ls : List HeldLock) → HaveModes ls → 1 ≤ number_of l.mode → HaveModes (put q l ls)
unfolding put
modes_put q l [] s t = record { one = t; rest = record {} }
modes_put q l (x ∷ ls) s t = go (q x) (modes_put q l ls s.rest t)
  where
    go : (b : Bool) → HaveModes (put q l ls) → HaveModes (if b then l ∷ ls else x ∷ put q l ls)
    go true r = record { one = t; rest = s.rest }
    go false r = record { one = s.one; rest = r }

-- a lock that is found has a mode
pub mode_found : (p : HeldLock → Bool) (ls : List HeldLock) (l : HeldLock) → HaveModes ls → find p ls ≡ Some l → 1 ≤ number_of l.mode
mode_found p [] l s e = cc
mode_found p (x ∷ ls) l s e = go (p x) e (mode_found p ls l s.rest)
  where
    go : (b : Bool) → (if b then Some x else find p ls) ≡ Some l → (find p ls ≡ Some l → 1 ≤ number_of l.mode) → 1 ≤ number_of l.mode
    go true e f = subst (λ (z : HeldLock). 1 ≤ number_of z.mode) (some_is e) s.one
    go false e f = f e

module _ (k : Config) (sv : Beside) (now : ℕ) (hs : List Msg) where
  pub wait_gone : (t : Turn) (s : ClientSession) (ws : List LockWait) → Goes k sv now hs (with_session s t) (with_session (record s { waits = ws }) t)
  wait_gone t s ws =
      record {
        frame = frame_same _ _ _ _;
        go = λ N r. record {
          net = N;
          moves = Stays (at sv now (with_session s t) N);
          ready = record { terms = r.terms; born = r.born; lasts = r.lasts; said = r.said; kept = record { queue = r.kept.queue; asked = r.kept.asked; told = r.kept.told; modes = r.kept.modes; quiet = r.kept.quiet }; received = r.received };
        };
      }

  install_goes : (t : Turn) (s : ClientSession) (stamp ino : ℕ) (g : GrantNo) (mode : Mode) → In (msg t.here.life.0 s.epoch.0 stamp (net.Granted ino g.0 (number_of mode))) hs → 1 ≤ number_of mode → (seen_of s.locks ino).0 < g.0 →
      Goes k sv now hs (with_session s t) (with_session (cr.accept_grant s ino g mode) t)
  unfolding cr.accept_grant locks.installed
  install_goes t s stamp ino g mode has some lt =
      record {
        frame = frame_same _ _ _ _;
        go = λ N r. record {
          net = N;
          moves =
              one_to (at sv now (with_session (cr.accept_grant s ino g mode) t) N)
              (Installs (at sv now (with_session s t) N) stamp ino g.0 (number_of mode) (r.received _ has) (alive k sv now hs t s N r) lt) refl
              (λ j. record {
                c = record (client_of sv.ended now (with_session s t).here) {
                  held = λ d. sym (lock_set s.locks.rows (held_lock ino g mode) d) j;
                  seen = λ d. sym (seen_set s.locks.seen ino g d) j;
                };
                s = sv.s;
                net = N;
              });
          ready =
              record {
                terms = r.terms;
                born = r.born;
                lasts = r.lasts;
                said = r.said;
                kept =
                    record {
                      queue = r.kept.queue;
                      asked = r.kept.asked;
                      told = told_filter _ _ _ s.locks.demanded N r.kept.told;
                      modes = modes_put _ (held_lock ino g mode) s.locks.rows r.kept.modes some;
                      quiet = r.kept.quiet;
                    };
                received = r.received;
              };
        };
      }

  decline_goes : (t : Turn) (s : ClientSession) (stamp ino : ℕ) (g : GrantNo) (mode : Mode) → In (msg t.here.life.0 s.epoch.0 stamp (net.Granted ino g.0 (number_of mode))) hs → (held_at (lock_of s.locks ino)).mode ≡ 0 → (seen_of s.locks ino).0 < g.0 →
      Goes k sv now hs (with_session s t) (with_session (cr.decline s ino g) t)
  unfolding cr.decline locks.observe
  decline_goes t s stamp ino g mode has zero lt =
      record {
        frame = frame_same _ _ _ _;
        go = λ N r.
            let c : Msg = msg t.here.life.0 s.epoch.0 0 (net.Released ino g.0 0) in
            let x = ready_more k now hs (with_session s t) N (c ∷ N) (λ x i. inr i) r in
            record {
              net = c ∷ N;
              moves =
                  one_to (at sv now (with_session (cr.decline s ino g) t) (c ∷ N))
                  (Declines (at sv now (with_session s t) N) stamp ino g.0 (number_of mode) (r.received _ has) (alive k sv now hs t s N r) lt zero) refl
                  (λ j. record { c = record (client_of sv.ended now (with_session s t).here) { seen = λ d. sym (seen_set s.locks.seen ino g d) j }; s = sv.s; net = c ∷ N });
              ready =
                  record {
                    terms = x.terms;
                    born = x.born;
                    lasts = x.lasts;
                    said = x.said;
                    kept = record { queue = waiting_both _ _ s.releases _ (c ∷ N) x.kept.queue (record { one = inl refl; rest = record {} }); asked = x.kept.asked; told = x.kept.told; modes = x.kept.modes; quiet = x.kept.quiet };
                    received = x.received;
                  };
            };
      }

  no_lock_no_mode : (o : Option HeldLock) → is_some o ≡ false → (held_at o).mode ≡ 0
  no_lock_no_mode None e = refl
  no_lock_no_mode (Some l) e = cc

  new_goes : (t : Turn) (s : ClientSession) (stamp ino : ℕ) (g : GrantNo) (mode : Mode) → In (msg t.here.life.0 s.epoch.0 stamp (net.Granted ino g.0 (number_of mode))) hs → 1 ≤ number_of mode → (seen_of s.locks ino).0 < g.0 →
      Goes k sv now hs (with_session s t) (with_session (cr.grant_new s ino g mode) t)
  unfolding cr.grant_new
  new_goes t s stamp ino g mode has some lt =
      if_within k sv now hs (with_session s t) (λ x. with_session x t) (locks.has_place s.locks ino) _ _
      (λ h. install_goes t s stamp ino g mode has some lt)
      (λ h. decline_goes t s stamp ino g mode has (no_lock_no_mode (lock_of s.locks ino) (or_false _ _ h).0) lt)

  -- Granted
  pub granted_goes : (t : Turn) (s : ClientSession) (stamp ino : ℕ) (g : GrantNo) (mode : Mode) → In (msg t.here.life.0 s.epoch.0 stamp (net.Granted ino g.0 (number_of mode))) hs → 1 ≤ number_of mode →
      Goes k sv now hs (with_session s t) (cr.granted (with_session s t) s ino g mode)
  unfolding cr.granted cr.grant
  granted_goes t s stamp ino g mode has some =
      let u : ClientSession = st.forget_wait ino s in
      goes_then k sv now hs (with_session s t) (with_session u t) _ (wait_gone t s (st.without_wait ino s.waits))
      (if_within k sv now hs (with_session u t) (λ x. with_session x t) (locks.is_above_seen u.locks ino g) _ _
      (λ h. new_goes t u stamp ino g mode has some (ltb-true _ _ h)) (λ h. goes_same k sv now hs (with_session u t)))

  -- Demand
  mark_goes : (t : Turn) (s : ClientSession) (stamp ino : ℕ) (g : GrantNo) (to : Mode) (l : HeldLock) → In (msg t.here.life.0 s.epoch.0 stamp (net.Demand ino g.0 (number_of to))) hs → lock_of s.locks ino ≡ Some l → l.g.0 ≤ g.0 →
      Goes k sv now hs (with_session s t) (with_session (st.with_cache (locks.demand_lock s.locks ino g to l).locks s) t)
  unfolding locks.demand_lock
  mark_goes t s stamp ino g to l has is le =
      record {
        frame = frame_same _ _ _ _;
        go = λ N r.
            let some : 1 ≤ number_of l.mode = mode_found (is_lock_on ino) s.locks.rows l r.kept.modes is in
            let same : number_of l.mode ≡ (held_at (lock_of s.locks ino)).mode = sym (ap (λ o. (held_at o).mode) is) in
            record {
              net = N;
              moves =
                  one_to (at sv now (with_session (st.with_cache (locks.demand_lock s.locks ino g to l).locks s) t) N)
                  (Asked (at sv now (with_session s t) N) stamp ino g.0 (number_of to) (r.received _ has) (alive k sv now hs t s N r)
                  (subst (λ m. 1 ≤ m) same some) (subst (λ o. (held_at o).g ≤ g.0) (sym is) le)) refl
                  (λ j. record {
                    c = record (client_of sv.ended now (with_session s t).here) {
                      held = λ d. sym (lock_set s.locks.rows (held_lock ino g l.mode) d ∙ ap (λ m. upd (λ d. held_at (lock_of s.locks d)) ino (record { g = g.0; mode = m }) d) same) j;
                      seen = λ d. sym (seen_set s.locks.seen ino g d) j;
                    };
                    s = sv.s;
                    net = N;
                  });
              ready =
                  record {
                    terms = r.terms;
                    born = r.born;
                    lasts = r.lasts;
                    said = r.said;
                    kept =
                        record {
                          queue = r.kept.queue;
                          asked = r.kept.asked;
                          told =
                              told_last _ _ _ _ N (told_filter _ _ _ s.locks.demanded N r.kept.told)
                              (record { stamp = stamp; g = g.0; to = number_of to; is = r.received _ has });
                          modes = modes_put _ (held_lock ino g l.mode) s.locks.rows r.kept.modes some;
                          quiet = r.kept.quiet;
                        };
                    received = r.received;
                  };
            };
      }

  observe_goes : (t : Turn) (s : ClientSession) (ino : ℕ) (g : GrantNo) → Goes k sv now hs (with_session s t) (cr.observe_demand (with_session s t) s ino g)
  unfolding cr.observe_demand send
  observe_goes t s ino g = record {
    frame = frame_send _ _ _ _ _ refl refl;
    go = λ N r. record {
      net = N;
      moves = Stays (at sv now (with_session s t) N);
      ready =
          record {
            terms = r.terms;
            born = r.born;
            lasts = r.lasts;
            said = said_both t.id.0 t.here.server t.out _ N r.said (record { from = refl; one = λ e. record { born = r.born; clients = refl; wishes = record {}; shows = record {} }; rest = record {} });
            kept = r.kept;
            received = r.received;
          };
    };
  }

  unheld_move : (t : Turn) (s : ClientSession) (stamp ino : ℕ) (g : GrantNo) (to : Mode) (N : List Msg) → Ready k now hs (with_session s t) N → In (msg t.here.life.0 s.epoch.0 stamp (net.Demand ino g.0 (number_of to))) hs → lock_of s.locks ino ≡ None →
      Moves k (at sv now (with_session s t) N) (at sv now (with_session (st.with_cache (locks.observe s.locks ino (locks.greater_grant (seen_of s.locks ino) g)) s) t) (msg t.here.life.0 s.epoch.0 0 (net.Released ino g.0 0) ∷ N))
  unfolding locks.observe
  unheld_move t s stamp ino g to N r has is =
      let c : Msg = msg t.here.life.0 s.epoch.0 0 (net.Released ino g.0 0) in
      let top : GrantNo = locks.greater_grant (seen_of s.locks ino) g in
      one_to (at sv now (with_session (st.with_cache (locks.observe s.locks ino top) s) t) (c ∷ N))
      (AskedOfNone (at sv now (with_session s t) N) stamp ino g.0 (number_of to) (r.received _ has) (alive k sv now hs t s N r) (ap (λ o. (held_at o).mode) is) top.0 (omega arith) (omega arith)) refl
      (λ j. record { c = record (client_of sv.ended now (with_session s t).here) { seen = λ d. sym (seen_set s.locks.seen ino top d) j }; s = sv.s; net = c ∷ N })

  unheld_goes : (t : Turn) (s : ClientSession) (stamp ino : ℕ) (g : GrantNo) (to : Mode) → In (msg t.here.life.0 s.epoch.0 stamp (net.Demand ino g.0 (number_of to))) hs → lock_of s.locks ino ≡ None →
      Goes k sv now hs (with_session s t) (with_session (cr.release_unheld (st.with_cache (locks.observe s.locks ino (locks.greater_grant (seen_of s.locks ino) g)) s) ino g) t)
  unfolding cr.release_unheld locks.observe
  unheld_goes t s stamp ino g to has is =
      if_within k sv now hs (with_session s t) (λ x. with_session x t) (cr.has_release u ino g) _ _ (λ h. record { frame = frame_same _ _ _ _; go = known }) (λ h. record { frame = frame_same _ _ _ _; go = new })
    where
      u : ClientSession
      u = st.with_cache (locks.observe s.locks ino (locks.greater_grant (seen_of s.locks ino) g)) s

      c : Msg
      c = msg t.here.life.0 s.epoch.0 0 (net.Released ino g.0 0)

      known : (N : List Msg) → Ready k now hs (with_session s t) N → Result k sv sv now hs (with_session s t) (with_session u t) N
      known N r =
          let x = ready_more k now hs (with_session s t) N (c ∷ N) (λ x i. inr i) r in
          record {
            net = c ∷ N;
            moves = unheld_move t s stamp ino g to N r has is;
            ready = record { terms = x.terms; born = x.born; lasts = x.lasts; said = x.said; kept = record { queue = x.kept.queue; asked = x.kept.asked; told = x.kept.told; modes = x.kept.modes; quiet = x.kept.quiet }; received = x.received };
          }

      new : (N : List Msg) → Ready k now hs (with_session s t) N → Result k sv sv now hs (with_session s t) (with_session (st.with_release ino g modes.None u) t) N
      new N r =
          let x = ready_more k now hs (with_session s t) N (c ∷ N) (λ x i. inr i) r in
          record {
            net = c ∷ N;
            moves = unheld_move t s stamp ino g to N r has is;
            ready =
                record {
                  terms = x.terms;
                  born = x.born;
                  lasts = x.lasts;
                  said = x.said;
                  kept = record { queue = waiting_both _ _ s.releases _ (c ∷ N) x.kept.queue (record { one = inl refl; rest = record {} }); asked = x.kept.asked; told = x.kept.told; modes = x.kept.modes; quiet = x.kept.quiet };
                  received = x.received;
                };
          }

  held_goes : (t : Turn) (s : ClientSession) (stamp ino : ℕ) (g : GrantNo) (to : Mode) (l : HeldLock) → In (msg t.here.life.0 s.epoch.0 stamp (net.Demand ino g.0 (number_of to))) hs → lock_of s.locks ino ≡ Some l →
      Goes k sv now hs (with_session s t) (cr.demand_by (with_session s t) s ino g (locks.demand_held s.locks ino g to l))
  unfolding cr.demand_by cr.demand_as locks.demand_held locks.demand_lock locks.demand_stale cr.observe_demand
  held_goes t s stamp ino g to l has is =
      if_within k sv now hs (with_session s t) (λ d. cr.demand_by (with_session s t) s ino g d) (nat_le l.g.0 g.0) _ _
      (λ h. goes_then k sv now hs (with_session s t) (with_session u t) _ (mark_goes t s stamp ino g to l has is (leb-true _ _ h)) (observe_goes t u ino g))
      (λ h. goes_same k sv now hs (with_session s t))
    where
      u : ClientSession
      u = st.with_cache (locks.demand_lock s.locks ino g to l).locks s

  pub demand_goes : (t : Turn) (s : ClientSession) (stamp ino : ℕ) (g : GrantNo) (to : Mode) → In (msg t.here.life.0 s.epoch.0 stamp (net.Demand ino g.0 (number_of to))) hs →
      Goes k sv now hs (with_session s t) (cr.demand (with_session s t) s ino g to)
  unfolding cr.demand cr.demand_by cr.demand_as locks.demand locks.demand_at locks.demand_unheld
  demand_goes t s stamp ino g to has = go (lock_of s.locks ino) refl
    where
      go : (o : Option HeldLock) → lock_of s.locks ino ≡ o → Goes k sv now hs (with_session s t) (cr.demand_by (with_session s t) s ino g (locks.demand_at s.locks ino g to o))
      go None e = unheld_goes t s stamp ino g to has e
      go (Some l) e = held_goes t s stamp ino g to l has e
