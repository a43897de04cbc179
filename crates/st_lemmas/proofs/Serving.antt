-- What a change of a server's waits, suspects and sessions leaves.
use Rattle.std.proofs.Common.{Bool, List, [], cond, eq-eqb, false, inl, inr, refl, true, ℕ, ◌∷◌, ◌≡◌, ◌⊎◌}
use Rattle.std.specs.Prelude.{nat_lt}
use Rattle.st_base.specs.declared.ids.ClientId.{ClientId}
use Rattle.st_base.specs.declared.ids.Stamp.{Stamp}
use Rattle.st_base.specs.declared.mode.Mode.{Mode}
use Rattle.st_lemmas.proofs.Tables.{and_both, cond_either}
use Rattle.st_lemmas.specs.Lists.{Has}
use Rattle.st_rules.specs.Authority.{Authority, suspect_placed, with_suspect}
use Rattle.st_rules.specs.Locks.{Locks, is_wait_of, release_to}
use Rattle.st_rules.specs.declared.authority.Suspect.{Suspect}
use Rattle.st_rules.specs.declared.locks.Waiter.{Waiter}
use Rattle.st_rules.specs.declared.sessions.Session.{Session}
use Rattle.st_rules.specs.Authority as authority
use Rattle.st_base.specs.declared.mode.Mode.TheVariants as modes
use Rattle.st_rules.specs.Sessions as sessions

pub released_waits : (l : Locks) (c : ClientId) (ino : ℕ) (to : Mode) → (release_to l c ino to).waiters ≡ l.waiters
unfolding release_to
released_waits l c ino modes.None = refl
released_waits l c ino modes.S = refl
released_waits l c ino modes.X = refl

pub own_wait : (w : Waiter) → is_wait_of w.client w.ino w ≡ true
own_wait w = and_both _ _ (eq-eqb w.client.0 w.client.0 refl) (eq-eqb w.ino w.ino refl)

pub end_client : (c : ClientId) (x : Session) → (sessions.end_of c x).client ≡ x.client
unfolding sessions.ended
end_client c x = go (sessions.is_session_of c x)
  where
    go : (b : Bool) → (cond b (sessions.ended x) x).client ≡ x.client
    go true = refl
    go false = refl

pub has_suspect : (s : Suspect) (xs : List Suspect) (y : Suspect) → Has y (with_suspect s xs) → (y ≡ s) ⊎ Has y xs
unfolding with_suspect suspect_placed
has_suspect s [] y (inl e) = inl e
has_suspect s [] y (inr h) = elim h [ ]
has_suspect s (x ∷ xs) y h =
    cond_either (λ ys. Has y ys → (y ≡ s) ⊎ Has y (x ∷ xs)) (nat_lt s.client.0 x.client.0) (s ∷ (x ∷ xs)) (x ∷ with_suspect s xs) (λ e i. i)
    (λ e i. go i (λ j. has_suspect s xs y j)) h
  where
    go : (y ≡ x) ⊎ Has y (with_suspect s xs) → (Has y (with_suspect s xs) → (y ≡ s) ⊎ Has y xs) → (y ≡ s) ⊎ Has y (x ∷ xs)
    go (inl e) r = inr (inl e)
    go (inr j) r = go2 (r j)
      where
        go2 : (y ≡ s) ⊎ Has y xs → (y ≡ s) ⊎ Has y (x ∷ xs)
        go2 (inl e) = inl e
        go2 (inr i) = inr (inr i)

-- a timer that starts
pub suspect_wait : (a : Authority) (c : ClientId) (now : Stamp) → (authority.suspect a c now).wait ≡ a.wait
unfolding authority.suspect authority.start_timer
suspect_wait a c now = cond_either (λ (b : Authority). b.wait ≡ a.wait) (authority.may_ack a c)
    (record a { suspects = authority.with_suspect (authority.new_suspect c now) a.suspects }) a (λ e. refl) (λ e. refl)
