-- Giving locks back is a list of changes.
use Rattle.st_lemmas.proofs.Words
use Words.{◌≡◌, ◌&&◌, ℕ, Bool, true, false, list_all, nat_le, List, [], ◌∷◌, Option, Some, None, find, refl, ap, sym, subst, ◌∙◌, inl, inr, if◌then◌else◌, HeldLock, Operation, Stamp}
use Words.answers
use Words.ClientLocks as locks
use Words.ClientReplies as replies
use Words.ClientState.{Association, ClientSession, Turn, file_of, is_serving}
use Words.Lists.{Has}
use Words.Lookups.{some_is}
use Words.Tables.{has_filter}
use Rattle.std.specs.Option.{option_or}
use Rattle.st_third.specs.GiveBack as giving
use Rattle.st_third.specs.Promises.{cache_at, is_stuck_at}
use Rattle.st_third.specs.State.{ThirdTurn, plainly, session}
use Rattle.st_laws_third.specs.Changes.{ThirdChanges, Bounds, GivesBack, Heard, IsBeside, SameRun, Still}
use Rattle.st_laws_third.proofs.Chains.{Old, both, by_rule, either, old_answers, old_still, one}

-- The lock that is chosen is one of those.

lowest_there : (ls : List HeldLock) (l : HeldLock) → giving.lowest ls ≡ Some l → Has l ls
unfolding giving.lowest giving.lesser_lock
lowest_there [] l e = absurd cc
lowest_there (x ∷ xs) l e = go (lowest_there xs l) (giving.lowest xs) refl (some_is e)
  where
    go : (giving.lowest xs ≡ Some l → Has l xs) → (o : Option HeldLock) → giving.lowest xs ≡ o → giving.lesser_of x o ≡ l → Has l (x ∷ xs)
    go later None q r = inl (sym r)
    go later (Some y) q r = at (Rattle.std.specs.Prelude.nat_le x.g.0 y.g.0) r
      where
        at : (b : Bool) → (if b then x else y) ≡ l → Has l (x ∷ xs)
        at true r = inl (sym r)
        at false r = inr (later (q ∙ ap (λ z. Some z) r))

chosen_there : (t : ThirdTurn) (ls : List HeldLock) (l : HeldLock) → giving.chosen t ls ≡ Some l → Has l ls
unfolding giving.chosen
chosen_there t ls l e = go (giving.lowest ks) refl e
  where
    ks : List HeldLock
    ks = Rattle.std.specs.Prelude.filter (giving.is_idle_lock t.plain.here.store) ls

    go : (o : Option HeldLock) → giving.lowest ks ≡ o → option_or o (giving.lowest ls) ≡ Some l → Has l ls
    go None q r = lowest_there ls l r
    go (Some x) q r = (has_filter (giving.is_idle_lock t.plain.here.store) ls l (lowest_there ks l (q ∙ r))).0

refused_here : (u : Turn) (file : Option ℕ) → (replies.refuse_file u answers.TooManyLocks file).here ≡ u.here
unfolding replies.refuse_file Rattle.st_rules.specs.ClientState.answer_each
refused_here u None = refl
refused_here u (Some ino) = refl

-- a refusal leaves the session
refusal_keeps : (s : ClientSession) (t : ThirdTurn) (o : Operation) → giving.is_all_stuck t s ≡ true → session (giving.give_back t s o) ≡ session t
unfolding giving.give_back plainly
refusal_keeps s t o q =
    subst (λ b. session (if b then plainly (giving.too_many (file_of o.ask)) t else giving.give_unless t s o) ≡ session t) (sym q)
    (ap (λ (a : Association). a.session) (refused_here t.plain (file_of o.ask)))

-- the session's locks are as many as may be, and all are stuck
stuck_here : (t : ThirdTurn) (s : ClientSession) → session t ≡ Some s → giving.is_all_stuck t s ≡ true → is_stuck_at t.limits t.plain.here ≡ true
stuck_here t s e q =
    subst
    (λ o. (nat_le t.limits.locks (locks.count (cache_at o)) && list_all (giving.is_stuck_lock t.plain.here.store) (cache_at o).rows) ≡ true) (sym e) q

refuses : {within : Bounds} {now : Stamp} (u : Turn) (file : Option ℕ) → is_stuck_at within.limits u.here ≡ true →
    Old within now u (replies.refuse_file u answers.TooManyLocks file)
unfolding replies.refuse_file
refuses u None q = old_still u
refuses u (Some ino) q = old_answers (replies.works_on u ino) answers.TooManyLocks u (inl q)

module _ {got : Heard} {now : Stamp} where
  module _ (s : ClientSession) where
    gives_lock : (t : ThirdTurn) (o : Operation) → session t ≡ Some s → (l : Option HeldLock) → giving.chosen t (giving.spare t s o) ≡ l →
        ThirdChanges got now t (giving.give_lock t s l)
    unfolding giving.give_lock
    gives_lock t o e None q = Still t
    gives_lock t o e (Some l) q = one (GivesBack t s l e (has_filter (giving.is_spare t s o) s.locks.rows l (chosen_there t (giving.spare t s o) l q)).0)

    gives_back : (t : ThirdTurn) (o : Operation) → session t ≡ Some s → ThirdChanges got now t (giving.give_back t s o)
    unfolding giving.give_back giving.give_unless
    gives_back t o e =
        either (giving.is_all_stuck t s) t _ _ (λ q. by_rule t (giving.too_many (file_of o.ask)) (refuses t.plain (file_of o.ask) (stuck_here t s e q)))
        (λ q. either (giving.is_on_its_way t s) t _ _ (λ w. Still t) (λ w. gives_lock t o e (giving.chosen t (giving.spare t s o)) refl))

    gives_each : (os : List Operation) (t : ThirdTurn) → session t ≡ Some s → ThirdChanges got now t (giving.give_each s os t)
    unfolding giving.give_each giving.give_for giving.give_if_full giving.give_or_go_on
    gives_each [] t e = Still t
    gives_each (o ∷ os) t e =
        either (Rattle.std.specs.Prelude.◌&&◌ (giving.is_pending t o) (giving.needs_further t s o)) t _ _
        (λ p. either (giving.is_full t s) t _ _
        (λ f. either (giving.is_all_stuck t s) t _ _
        (λ q. both (gives_back t o e) (gives_each os (giving.give_back t s o) (refusal_keeps s t o q ∙ e)))
        (λ q. gives_back t o e)) (λ f. Still t)) (λ p. gives_each os t e)

    -- the server is full
    pub is_full_at : (t : ThirdTurn) (ino : ℕ) → session t ≡ Some s → ThirdChanges got now t (giving.full_at t s now ino)
    unfolding giving.full_at giving.give_at
    is_full_at t ino e = both (one (IsBeside t _ (SameRun refl))) (go (find (giving.needs_file t ino) t.plain.operations))
      where
        u : ThirdTurn
        u = giving.with_full now t

        go : (o : Option Operation) → ThirdChanges got now u (giving.give_at u s o)
        go None = Still u
        go (Some o) = gives_back u o e

  pub gives : (t : ThirdTurn) → ThirdChanges got now t (giving.giving now t)
  unfolding giving.giving giving.giving_by giving.giving_under
  gives t = go (session t) refl
    where
      go : (x : Option ClientSession) → session t ≡ x → ThirdChanges got now t (giving.giving_by t now x)
      go None e = Still t
      go (Some s) e = either (is_serving t.plain.config s now) t _ _ (λ q. gives_each s t.plain.operations t e) (λ q. Still t)
