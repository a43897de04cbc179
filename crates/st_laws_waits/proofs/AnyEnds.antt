-- A wait, the first of its file or not, goes on through each change of a step, except for a grant to it, a suspicion of its client, and the three messages that
-- end it.
use Rattle.st_lemmas.proofs.Words
use Words.{◌≡◌, ◌≢◌, ℕ, ◌<◌, ◌⊎◌, Bool, true, false, not, ◌==◌, List, [], ◌∷◌, refl, sym, ap, ◌∙◌, subst, inl, inr, arith, cond, filter, find, Option, Some}
use Words.{None, Ok, is_some, option_map, eq-eqb, le-leb, ne_eqb, ClientId, GrantNo, Life, Stamp, Mode, Message, Suspect, ServerInput}
use Words.{Waiter, Session}
use Words.bodies
use Words.ops.{Remove}
use Words.serving.{Control}
use Words.Authority as authority
use Words.Authority.{Authority, over, suspect_of}
use Words.Keys.{client}
use Words.Locks as locks
use Words.Locks.{Locks, grant, is_wait_by, is_wait_of, is_wait_on, new_wait, queue, queue_at, raise, release_to, wait_for, wait_of, with_demand, with_rows}
use Words.Names as names
use Words.Server.{ServerState, Stable, ServerTurn, keep_and_reply, life_in, reply, sender, server_step, steal, steal_at, steal_each, steal_from, suspect_client, tell}
use Words.Server.{thefts, turn, with_authority}
use Words.Sessions as sessions
use Words.Lists.{Has}
use Words.Lookups.{some_is}
use Words.Tables.{and_both, and_true, cond_either, find_map, same_or_not}
use Words.Serving.{released_waits}
use Words.Tests.{find_filtered, find_longer}
use Rattle.st_base.specs.Mode.{number_of}
use Rattle.st_laws_refine.specs.Server.Edits.{WishInput, Acquired, AtOnce, InTurn, Edit, TakesTimers, Steals, Suspects, DropsWaits, Reasserts, Sees, Acquires}
use Rattle.st_laws_refine.specs.Server.Edits.{Releases, DropsFile, Grants, Demands}
use Rattle.st_laws_refine.proofs.Server.Dating.{suspect_stays}
use Rattle.st_laws_refine.proofs.Server.Thefts.{over_has}
use Rattle.st_laws_refine.proofs.Server.Walk.{walk}
use Rattle.st_laws_waits.specs.Bounds.{RowsHaveSessions}
use Rattle.st_laws_waits.specs.Ends.{IsGranted, IsWaiting, StaysOrEnds}
use Rattle.st_laws_waits.specs.Ends.EndsBy.{Granted, Suspected, Greeted, Asked, Removed}
use Rattle.st_laws_waits.proofs.Chasing.{raised_alone, raised_same}
use Rattle.st_laws_waits.proofs.Ends.{granted_among, granted_besides, granted_demanded, granted_forgot, granted_installed, granted_now, now_suspect, other_client, other_wait}
use Rattle.st_laws_waits.proofs.Ends.{received_of, same_mode}
use Rattle.st_laws_waits.proofs.Robbing.{left}

-- The first member that passes a test is the first that passes another one, if it passes that too and whatever passes that passes the test.
first_too : {A : Type 0} (p q : A → Bool) → ((x : A) → q x ≡ true → p x ≡ true) → (v : A) (xs : List A) → find p xs ≡ Some v → q v ≡ true → find q xs ≡ Some v
first_too p q more v [] e k = cc
first_too {A} p q more v (x ∷ xs) e k = go (λ r. first_too p q more v xs r k) (p x) refl (q x) refl e
  where
    go : (find p xs ≡ Some v → find q xs ≡ Some v) → (b : Bool) → p x ≡ b → (d : Bool) → q x ≡ d → cond b (Some x) (find p xs) ≡ Some v →
        cond d (Some x) (find q xs) ≡ Some v
    go more_of true f true g r = r
    go more_of true f false g r = let z = sym g ∙ ap q (some_is r) ∙ k in cc
    go more_of false f true g r = let z = sym f ∙ more x g in cc
    go more_of false f false g r = more_of r

module _ (w : Waiter) where
  -- waits that are left out: those that pass the test stay
  stays_among : (l : Locks) (q : Waiter → Bool) → q w ≡ true → IsWaiting w l → find (is_wait_of w.client w.ino) (filter q l.waiters) ≡ Some w
  stays_among l q e f = find_filtered (is_wait_of w.client w.ino) q w l.waiters f e

  raised_its : (c : ClientId) (ino : ℕ) (mode : Mode) (v : Waiter) → is_wait_of w.client w.ino (raise c ino mode v) ≡ is_wait_of w.client w.ino v
  unfolding wait_for
  raised_its c ino mode v =
      cond_either (λ (y : Waiter). is_wait_of w.client w.ino y ≡ is_wait_of w.client w.ino v) (is_wait_of c ino v) (wait_for mode v) v (λ e. refl) (λ e. refl)

  -- a grant to another client or of another file
  stays_granted : (l : Locks) (c : ClientId) (life : Life) (ino : ℕ) (mode : Mode) → (c.0 ≢ w.client.0) ⊎ (ino ≢ w.ino) → IsWaiting w l →
      IsWaiting w (grant l c life ino mode)
  unfolding grant
  stays_granted l c life ino mode o f = stays_among l (λ v. not (is_wait_of c ino v)) (ap not (other_wait w c ino o)) f

  stays_queued : (l : Locks) (c : ClientId) (life : Life) (ino : ℕ) (mode : Mode) → (c.0 ≢ w.client.0) ⊎ (ino ≢ w.ino) → IsWaiting w l →
      IsWaiting w (queue l c life ino mode)
  unfolding queue queue_at
  stays_queued l c life ino mode o f = at (wait_of l c ino)
    where
      at : (v : Option Waiter) → IsWaiting w (queue_at l c life ino mode v)
      at None = find_longer (is_wait_of w.client w.ino) w l.waiters (new_wait c life ino mode ∷ []) f
      at (Some v) =
          find_map (is_wait_of w.client w.ino) (raise c ino mode) (raised_its c ino mode) l.waiters
          ∙ ap (option_map (raise c ino mode)) f ∙ ap (λ v. Some v) (raised_alone w c ino mode (other_wait w c ino o))

  -- a wait of its own client in its own mode
  stays_again : (l : Locks) → IsWaiting w l → IsWaiting w (queue l w.client w.life w.ino w.mode)
  unfolding queue queue_at
  stays_again l f = at (wait_of l w.client w.ino)
    where
      at : (v : Option Waiter) → IsWaiting w (queue_at l w.client w.life w.ino w.mode v)
      at None = find_longer (is_wait_of w.client w.ino) w l.waiters (new_wait w.client w.life w.ino w.mode ∷ []) f
      at (Some v) =
          find_map (is_wait_of w.client w.ino) (raise w.client w.ino w.mode) (raised_its w.client w.ino w.mode) l.waiters
          ∙ ap (option_map (raise w.client w.ino w.mode)) f
          ∙ ap (λ v. Some v) (raised_same w w.client w.ino w.mode (le-leb (number_of w.mode) (number_of w.mode) (omega arith)))

  stays_acquired : (g : Bool) (l : Locks) (c : ClientId) (life : Life) (ino : ℕ) (mode : Mode) (v : Locks) → Acquired g l c life ino mode v →
      (c.0 ≢ w.client.0) ⊎ (ino ≢ w.ino) → IsWaiting w l → IsWaiting w v
  stays_acquired g l c life ino mode v (AtOnce off y f none) o x = stays_granted l c life ino mode o x
  stays_acquired g l c life ino mode v (InTurn y) o x = stays_queued l c life ino mode o x

  stays_seen : (l : Locks) (c : ClientId) (ino : ℕ) (g : GrantNo) → IsWaiting w l → IsWaiting w (locks.demand_seen l c ino g)
  unfolding locks.demand_seen
  stays_seen l c ino g f = f

  stays_released : (l : Locks) (c : ClientId) (ino : ℕ) (to : Mode) → IsWaiting w l → IsWaiting w (release_to l c ino to)
  stays_released l c ino to f = ap (find (is_wait_of w.client w.ino)) (released_waits l c ino to) ∙ f

  stays_installed : (l : Locks) (c : ClientId) (life : Life) (rs : List (ℕ × GrantNo × Mode)) → IsWaiting w l → IsWaiting w (with_rows l c life rs)
  unfolding with_rows
  stays_installed l c life rs f = f

  -- thefts from others
  stays_stolen : (t : ServerTurn) (c : ClientId) (o : Option Session) → c.0 ≢ w.client.0 → IsWaiting w t.state.locks → IsWaiting w (steal_at t c o).state.locks
  unfolding steal_at steal_from locks.forget
  stays_stolen t c None ne f = f
  stays_stolen t c (Some s) ne f = stays_among t.state.locks (λ v. not (is_wait_by c v)) (other_client w c ne) f

  stays_robbed : (cs : List ClientId) (t : ServerTurn) → ((c : ClientId) → Has c cs → c.0 ≢ w.client.0) → IsWaiting w t.state.locks →
      IsWaiting w (steal_each cs t).state.locks
  unfolding steal_each steal
  stays_robbed [] t n f = f
  stays_robbed (c ∷ cs) t n f =
      stays_robbed cs (steal t c) (λ d i. n d (inr i)) (stays_stolen t c (sessions.session_of t.state.sessions c) (n c (inl refl)) f)

  -- whoever is granted is the first of its file: this wait, or another client's
  pub stays_or_granted : (l : Locks) (v : Waiter) → find (is_wait_on v.ino) l.waiters ≡ Some v → IsWaiting w l →
      IsWaiting w (grant l v.client v.life v.ino v.mode) ⊎ IsGranted w (grant l v.client v.life v.ino v.mode)
  stays_or_granted l v e f = go (same_or_not v.ino w.ino) (same_or_not v.client.0 w.client.0)
    where
      After : Waiter → Type 0
      After u = IsWaiting w (grant l u.client u.life u.ino u.mode) ⊎ IsGranted w (grant l u.client u.life u.ino u.mode)

      it_is : v.ino ≡ w.ino → v.client.0 ≡ w.client.0 → v ≡ w
      it_is q c =
          some_is (sym (first_too (is_wait_on v.ino) (is_wait_of w.client w.ino)
          (λ x k. ap (λ z. x.ino == z) q ∙ (and_true (x.client.0 == w.client.0) (x.ino == w.ino) k).1) v l.waiters e
          (and_both (v.client.0 == w.client.0) (v.ino == w.ino) (eq-eqb v.client.0 w.client.0 c) (eq-eqb v.ino w.ino q))) ∙ f)

      go : (v.ino ≡ w.ino) ⊎ (v.ino ≢ w.ino) → (v.client.0 ≡ w.client.0) ⊎ (v.client.0 ≢ w.client.0) → After v
      go (inl q) (inl c) = subst After (sym (it_is q c)) (inr (granted_now w l))
      go (inl q) (inr ne) = inl (stays_granted l v.client v.life v.ino v.mode (inl ne) f)
      go (inr ne) c = inl (stays_granted l v.client v.life v.ino v.mode (inr ne) f)

-- Through a step, from a state in which there is the wait.
module _ (w : Waiter) (n : ServerState) (now : Stamp) (i : ServerInput) (known : RowsHaveSessions n) (there : IsWaiting w n.locks)
    (free : (x : Suspect) → Has x n.authority.suspects → x.client.0 ≡ w.client.0 → ⊥)
    (lives : (s : Session) → sessions.session_of n.sessions w.client ≡ Some s → s.life.0 ≡ w.life.0) where
  abbrev Ends : ServerTurn → Type 0
  Ends t = StaysOrEnds w (received_of i) n.stable.names t.state.authority t.state.locks

  abbrev EndsAt : Authority → Locks → Type 0
  EndsAt a l = StaysOrEnds w (received_of i) n.stable.names a l

  -- by what held before
  carried : (a b : Authority) (l v : Locks) → (IsWaiting w l → EndsAt b v) → (IsGranted w l → IsGranted w v) →
      (is_some (suspect_of a w.client) ≡ true → is_some (suspect_of b w.client) ≡ true) → EndsAt a l → EndsAt b v
  carried a b l v f g s (inl x) = f x
  carried a b l v f g s (inr (Granted x)) = inr (Granted (g x))
  carried a b l v f g s (inr (Suspected x)) = inr (Suspected (s x))
  carried a b l v f g s (inr (Greeted m h x)) = inr (Greeted m h x)
  carried a b l v f g s (inr (Asked m h x)) = inr (Asked m h x)
  carried a b l v f g s (inr (Removed m h x)) = inr (Removed m h x)

  -- the wait's client is not robbed
  not_over : (c : ClientId) → Has c (over n.authority now) → c.0 ≢ w.client.0
  not_over c h e = let z = over_has n.authority now c h in free z.0 z.1 (sym (ap (λ (y : ClientId). y.0) z.3) ∙ e)

  not_robbed : (c : ClientId) → Has c (over n.authority now) → w.client.0 ≡ c.0 → ⊥
  not_robbed c h e = not_over c h (sym e)

  after_thefts : IsWaiting w (thefts (turn n []) now).state.locks
  unfolding thefts
  after_thefts = stays_robbed w (over n.authority now) (with_authority (authority.still_running n.authority now) (turn n [])) not_over there

  behind : (t : ServerTurn) → t ≡ thefts (turn n []) now → IsWaiting w t.state.locks
  behind t e = subst (λ (u : ServerTurn). IsWaiting w u.state.locks) (sym e) after_thefts

  -- waits are left out, and all else stays
  among : (a : Authority) (l : Locks) (q : Waiter → Bool) → (IsWaiting w l → EndsAt a (record l { waiters = filter q l.waiters })) → EndsAt a l →
      EndsAt a (record l { waiters = filter q l.waiters })
  among a l q f x = carried a a l (record l { waiters = filter q l.waiters }) f (granted_among w l q) (λ s. s) x

  forgot : (a : Authority) (l : Locks) (c : ClientId) → c.0 ≢ w.client.0 → EndsAt a l → EndsAt a (locks.forget l c)
  unfolding locks.forget
  forgot a l c ne x = carried a a l (locks.forget l c) (λ f. inl (kept f)) (granted_forgot w l c ne) (λ s. s) x
    where
      kept : IsWaiting w l → IsWaiting w (locks.forget l c)
      kept f = stays_among w l (λ v. not (is_wait_by c v)) (other_client w c ne) f

  -- after the thefts its client's session belongs to its life
  lives_there : (s : Session) → sessions.session_of (thefts (turn n []) now).state.sessions w.client ≡ Some s → s.life.0 ≡ w.life.0
  lives_there s e = lives s (sym ((left n.config n.authority.wait 0 now n known).sessions w.client not_robbed) ∙ e)

  greeted : (a : Authority) (l : Locks) (m : Message) (s : Session) → i ≡ Control m → m.body ≡ bodies.Hello →
      sessions.session_of (thefts (turn n []) now).state.sessions (sender m.header) ≡ Some s → s.life.0 < m.header.life →
      (m.header.from ≡ w.client.0) ⊎ (m.header.from ≢ w.client.0) → EndsAt a l → EndsAt a (locks.drop_waits l (sender m.header))
  unfolding locks.drop_waits
  greeted a l m s is b e f (inr ne) x =
      among a l (λ v. not (is_wait_by (sender m.header) v))
      (λ y. inl (stays_among w l (λ v. not (is_wait_by (sender m.header) v)) (other_client w (sender m.header) ne) y)) x
  greeted a l m s is b e f (inl q) x = inr (Greeted m (ap received_of is) (q, b, subst (λ n. n < m.header.life) same f))
    where
      same : s.life.0 ≡ w.life.0
      same =
          lives_there s (ap (λ c. sessions.session_of (thefts (turn n []) now).state.sessions (client c)) (sym q) ∙ e)

  -- its client asks once more in the same mode: it is granted, or waits where it is
  asked_same : (g : Bool) (a : Authority) (l : Locks) (v : Locks) → Acquired g l w.client w.life w.ino w.mode v → IsWaiting w l → EndsAt a v
  asked_same g a l v (AtOnce off y f none) x = inr (Granted (granted_now w l))
  asked_same g a l v (InTurn y) x = inl (stays_again w l x)

  asked : (g : Bool) (a : Authority) (l : Locks) (m : Message) (ino : ℕ) (mode : Mode) (v : Locks) (s : Session) → i ≡ Control m →
      m.body ≡ bodies.Acquire ino mode →
      sessions.session_of (thefts (turn n []) now).state.sessions (sender m.header) ≡ Some s → s.life.0 ≡ m.header.life →
      Acquired g l (sender m.header) (life_in m.header) ino mode v → IsWaiting w l → EndsAt a v
  asked g a l m ino mode v s is b hs hl q f = go (same_or_not m.header.from w.client.0) (same_or_not ino w.ino) (same_mode mode w.mode)
    where
      life : w.client.0 ≡ m.header.from → m.header.life ≡ w.life.0
      life c = sym hl ∙ lives_there s (ap (λ z. sessions.session_of (thefts (turn n []) now).state.sessions (client z)) c ∙ hs)

      same : m.header.from ≡ w.client.0 → ino ≡ w.ino → mode ≡ w.mode → EndsAt a v
      same c e d =
          asked_same g a l v
          (subst (λ z. Acquired g l (client z) w.life w.ino w.mode v) c
          (subst (λ z. Acquired g l (sender m.header) (record { 0 = z }) w.ino w.mode v) (life (sym c))
          (subst (λ z. Acquired g l (sender m.header) (life_in m.header) z w.mode v) e (subst (λ z. Acquired g l (sender m.header) (life_in m.header) ino z v) d q)))) f

      go : (m.header.from ≡ w.client.0) ⊎ (m.header.from ≢ w.client.0) → (ino ≡ w.ino) ⊎ (ino ≢ w.ino) → (mode ≡ w.mode) ⊎ (mode ≢ w.mode) → EndsAt a v
      go (inl c) (inl e) (inl d) = same c e d
      go (inl c) (inl e) (inr d) = inr (Asked m (ap received_of is) (c, (mode, (d, b ∙ ap (λ z. bodies.Acquire z mode) e))))
      go (inl c) (inr ne) d = inl (stays_acquired w g l (sender m.header) (life_in m.header) ino mode v q (inr ne) f)
      go (inr ne) e d = inl (stays_acquired w g l (sender m.header) (life_in m.header) ino mode v q (inl ne) f)

  granted : (a : Authority) (l : Locks) (v : Waiter) → find (is_wait_on v.ino) l.waiters ≡ Some v → IsWaiting w l →
      EndsAt a (grant l v.client v.life v.ino v.mode)
  granted a l v e f = go (stays_or_granted w l v e f)
    where
      go : IsWaiting w (grant l v.client v.life v.ino v.mode) ⊎ IsGranted w (grant l v.client v.life v.ino v.mode) → EndsAt a (grant l v.client v.life v.ino v.mode)
      go (inl x) = inl x
      go (inr x) = inr (Granted x)

  removed : (a : Authority) (l : Locks) (m : Message) (dir : ℕ) (name : List ℕ) (g : GrantNo) (ino : ℕ) → i ≡ Control m →
      m.body ≡ bodies.Name (Remove dir name g) →
      names.lookup (thefts (turn n []) now).state.stable.names dir name ≡ Ok ino → (ino ≡ w.ino) ⊎ (ino ≢ w.ino) → EndsAt a l → EndsAt a (locks.drop_file_waits l ino)
  unfolding locks.drop_file_waits
  removed a l m dir name g ino is b e (inr ne) x =
      among a l (λ v. not (is_wait_on ino v)) (λ y. inl (stays_among w l (λ v. not (is_wait_on ino v)) (ap not (ne_eqb w.ino ino (λ q. ne (sym q)))) y)) x
  removed a l m dir name g ino is b e (inl q) x =
      inr (Removed m (ap received_of is) (
        dir,
        (
          name,
          (
            g,
            (
              b,
              sym (ap (λ z. names.lookup z dir name) (ap (λ (z : Stable). z.names) (left n.config n.authority.wait 0 now n known).stable)) ∙ e ∙ ap (λ z. Ok z) q,
            ),
          ),
        ),
      ))

  ends_edit : (t u : ServerTurn) → Edit n now i t u → Ends t → Ends u
  unfolding steal_from suspect_client keep_and_reply reply tell locks.drop_waits
  ends_edit t u (TakesTimers _ z) x = inl (subst (λ (v : ServerTurn). IsWaiting w v.state.locks) (sym z) there)
  ends_edit t u (Steals _ c s h e) x = forgot t.state.authority t.state.locks c (not_over c h) x
  ends_edit t u (Suspects _ c z f y) x = go (same_or_not c.0 w.client.0)
    where
      go : (c.0 ≡ w.client.0) ⊎ (c.0 ≢ w.client.0) → EndsAt (authority.suspect t.state.authority c now) (locks.drop_waits t.state.locks c)
      go (inl e) =
          inr (Suspected (subst (λ n. is_some (suspect_of (authority.suspect t.state.authority c now) (client n)) ≡ true) e (now_suspect t.state.authority c now f)))
      go (inr ne) =
          carried t.state.authority (authority.suspect t.state.authority c now) t.state.locks (locks.drop_waits t.state.locks c)
          (λ y. inl (stays_among w t.state.locks (λ v. not (is_wait_by c v)) (other_client w c ne) y)) (granted_among w t.state.locks (λ v. not (is_wait_by c v)))
          (suspect_stays t.state.authority c now w.client) x
  ends_edit t u (DropsWaits _ m s is b e f) x = greeted t.state.authority t.state.locks m s is b e f (same_or_not m.header.from w.client.0) x
  ends_edit t u (Reasserts _ m rows is y gr f) x =
      carried t.state.authority t.state.authority t.state.locks (with_rows t.state.locks (sender m.header) (life_in m.header) rows)
      (λ z. inl (stays_installed w t.state.locks (sender m.header) (life_in m.header) rows z))
      (granted_installed w t.state.locks (sender m.header) (life_in m.header) rows) (λ s. s) x
  ends_edit t u (Sees _ m ino gr is fi b) x = inl (stays_seen w t.state.locks (sender m.header) ino gr (behind t fi))
  ends_edit t u (Acquires _ m ino mode v b y is fi by hs hl ok kb a) x =
      asked _ t.state.authority t.state.locks m ino mode v y is by
      (ap (λ (z : ServerTurn). sessions.session_of z.state.sessions (sender m.header)) (sym fi) ∙ hs) hl a (behind t fi)
  ends_edit t u (Releases _ m ino gr to r is fi b e f) x = inl (stays_released w t.state.locks (sender m.header) ino to (behind t fi))
  ends_edit t u (DropsFile _ m dir nm gr ino is b e) x = removed t.state.authority t.state.locks m dir nm gr ino is b e (same_or_not ino w.ino) x
  ends_edit t u (Grants _ v off h e f) x =
      carried t.state.authority t.state.authority t.state.locks (grant t.state.locks v.client v.life v.ino v.mode)
      (granted t.state.authority t.state.locks v e) (granted_besides w t.state.locks v h) (λ s. s) x
  ends_edit t u (Demands _ r y to e d) x =
      carried t.state.authority t.state.authority t.state.locks (with_demand r y t.state.locks) (λ z. inl z) (granted_demanded w t.state.locks r y) (λ s. s) x
  ends_edit t u other x = x

  pub step_stays : WishInput i → StaysOrEnds w (received_of i) n.stable.names (server_step n now i).state.authority (server_step n now i).state.locks
  step_stays wish = walk n now i Ends ends_edit wish (inl there)
