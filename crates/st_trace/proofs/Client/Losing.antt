-- A client's losses at one server, walked: nothing is lost, or the loss is noted, each operation is answered or stays, and the association is emptied.
use Rattle.st_lemmas.proofs.Words
use Words.{◌≡◌, Bool, true, false, not, List, [], ◌∷◌, ◌++◌, Option, Some, None, refl, sym, ap, ◌∙◌, subst, if◌then◌else◌, filter, FileId, ServerId, Stamp, Ask}
use Words.{Operation, append-nil}
use Words.answers
use Words.asks
use Words.Client as cl
use Words.ClientPages as pages
use Words.ClientState.{ClientSession, Turn, answered, is_of, is_sent, is_sync, keep, with_operations}
use Words.Tables.{cond_either}
use Rattle.std.proofs.lemmas.List.{append_assoc}
use Rattle.st_trace.specs.Client.Each.{Each, Ends, Next}
use Rattle.st_trace.specs.Client.Losses.{Ended, IsElsewhere, IsUncertain, IsToldLost, LostNothing, IsQuiesced, Loses, HasNoSession, Lasts, IsLost, loss_noted}

-- one operation of this server
ended_one : (s : ClientSession) (o : Operation) (t : Turn) → is_of t.here.server o ≡ true → Ended s o t (cl.end_operation t s o)
unfolding cl.end_operation cl.end_unsent cl.end_sync cl.tell_lost
ended_one s o t own = cond_either (Ended s o t) (is_sent o) _ _ (λ e. IsUncertain own e) (λ e. by e o.ask refl)
  where
    by : is_sent o ≡ false → (a : Ask) → o.ask ≡ a → Ended s o t (cl.end_unsent t o a)
    by e (asks.Sync f) q = cond_either (Ended s o t) (pages.has_lost t.here.lost f.ino) _ _ (λ h. IsToldLost f own e q h) (λ h. LostNothing f own e q h)
    by e a q = IsQuiesced own e (ap is_sync q)

-- An operation ends whatever others are pending.
apart_one : (xs : List Operation) (t : Turn) (s : ClientSession) (o : Operation) → cl.end_operation (with_operations xs t) s o ≡ with_operations xs
    (cl.end_operation t s o)
unfolding cl.end_operation cl.end_unsent cl.end_sync cl.tell_lost
apart_one xs t s o = sent (is_sent o)
  where
    lost : (f : FileId) (b : Bool) → (if b then cl.tell_lost (with_operations xs t) o.op f.ino else answered
        (with_operations xs t) o.op answers.Quiesced) ≡ with_operations xs (if b then cl.tell_lost t o.op f.ino else answered t o.op answers.Quiesced)
    lost f true = refl
    lost f false = refl

    by : (a : Ask) → cl.end_unsent (with_operations xs t) o a ≡ with_operations xs (cl.end_unsent t o a)
    by (asks.Sync f) = lost f (pages.has_lost t.here.lost f.ino)
    by a = refl

    sent : (b : Bool) → (if b then answered (with_operations xs t) o.op (answers.Uncertain s.epoch.0 0) else cl.end_unsent
        (with_operations xs t) o o.ask) ≡ with_operations xs (if b then answered t o.op (answers.Uncertain s.epoch.0 0) else cl.end_unsent t o o.ask)
    sent true = refl
    sent false = by o.ask

apart_each : (xs : List Operation) (s : ClientSession) (os : List Operation) (t : Turn) → cl.end_each s os (with_operations xs t) ≡ with_operations xs
    (cl.end_each s os t)
unfolding cl.end_each
apart_each xs s [] t = refl
apart_each xs s (o ∷ os) t = ap (cl.end_each s os) (apart_one xs t s o) ∙ apart_each xs s os (cl.end_operation t s o)

-- what one that ends leaves as it was
record Leaves (t u : Turn) : Type 0 where
  pub server : u.here.server ≡ t.here.server
  pub operations : u.operations ≡ t.operations

leaves : (t : Turn) (s : ClientSession) (o : Operation) → Leaves t (cl.end_operation t s o)
unfolding cl.end_operation cl.end_unsent cl.end_sync cl.tell_lost
leaves t s o = cond_either (Leaves t) (is_sent o) _ _ (λ e. record { server = refl; operations = refl }) (λ e. by o.ask)
  where
    by : (a : Ask) → Leaves t (cl.end_unsent t o a)
    by (asks.Sync f) = cond_either (Leaves t) (pages.has_lost t.here.lost f.ino) _ _ (λ e. record { server = refl; operations = refl })
        (λ e. record { server = refl; operations = refl })
    by a = record { server = refl; operations = refl }

others : ServerId → List Operation → List Operation
others v os = filter (λ o. not (is_of v o)) os

-- the turn after these operations: those of other servers stay, after the ones that stay
after : ServerId → ClientSession → List Operation → Turn → Turn
after v s os t = with_operations (t.operations ++ others v os) (cl.end_each s (filter (is_of v) os) t)

none_after : (v : ServerId) (s : ClientSession) (t : Turn) → after v s [] t ≡ t
unfolding after others cl.end_each
none_after v s t = ap (λ z. with_operations z t) (append-nil t.operations)

after_other : (v : ServerId) (s : ClientSession) (o : Operation) (os : List Operation) (t : Turn) → is_of v o ≡ false → after v s os (keep o t) ≡ after v s
    (o ∷ os) t
unfolding after others
after_other v s o os t e =
    ap (with_operations ((t.operations ++ o ∷ []) ++ others v os)) (apart_each (t.operations ++ o ∷ []) s (filter (is_of v) os) t)
    ∙ ap (λ z. with_operations z (cl.end_each s (filter (is_of v) os) t)) (append_assoc t.operations (o ∷ []) (others v os))
    ∙ go (is_of v o) e
  where
    go : (b : Bool) → b ≡ false → with_operations (t.operations ++ o ∷ others v os) (cl.end_each s (filter (is_of v) os) t)
        ≡ with_operations (t.operations ++ (if not b then o ∷ others v os else others v os))
        (cl.end_each s (if b then o ∷ filter (is_of v) os else filter (is_of v) os) t)
    go true q = cc
    go false q = refl

after_own : (v : ServerId) (s : ClientSession) (o : Operation) (os : List Operation) (t : Turn) → is_of v o ≡ true → after v s os
    (cl.end_operation t s o) ≡ after v s (o ∷ os) t
unfolding after others cl.end_each
after_own v s o os t e =
    ap (λ z. with_operations (z ++ others v os) (cl.end_each s (filter (is_of v) os) (cl.end_operation t s o))) (leaves t s o).operations ∙ go (is_of v o) e
  where
    go : (b : Bool) → b ≡ true → with_operations (t.operations ++ others v os) (cl.end_each s (filter (is_of v) os) (cl.end_operation t s o))
        ≡ with_operations (t.operations ++ (if not b then o ∷ others v os else others v os))
        (cl.end_each s (if b then o ∷ filter (is_of v) os else filter (is_of v) os) t)
    go true q = refl
    go false q = cc

ended_each : (v : ServerId) (s : ClientSession) (os : List Operation) (t : Turn) → t.here.server ≡ v → Each (Ended s) os t (after v s os t)
ended_each v s [] t e = subst (Each (Ended s) [] t) (sym (none_after v s t)) (Ends t)
ended_each v s (o ∷ os) t e = go (is_of v o) refl (λ u q. ended_each v s os u q)
  where
    there : (b : Bool) → is_of v o ≡ b → is_of t.here.server o ≡ b
    there b q = ap (λ z. is_of z o) e ∙ q

    go : (b : Bool) → is_of v o ≡ b → ((u : Turn) → u.here.server ≡ v → Each (Ended s) os u (after v s os u)) → Each (Ended s) (o ∷ os) t (after v s (o ∷ os) t)
    go true q rest =
        let u = cl.end_operation t s o in
        subst (Each (Ended s) (o ∷ os) t) (after_own v s o os t q)
        (Next o os t u (after v s os u) (ended_one s o t (there true q)) (rest u ((leaves t s o).server ∙ e)))
    go false q rest =
        subst (Each (Ended s) (o ∷ os) t) (after_other v s o os t q)
        (Next o os t (keep o t) (after v s os (keep o t)) (IsElsewhere (there false q)) (rest (keep o t) e))

ended_all : (s : ClientSession) (t : Turn) → Each (Ended s) t.operations (with_operations [] t) (cl.end_operations t s)
unfolding cl.end_operations after others
ended_all s t =
    let v = t.here.server in let own = filter (is_of v) t.operations in
    subst (Each (Ended s) t.operations (with_operations [] t))
    (ap (with_operations (others v t.operations)) (apart_each [] s own t) ∙ sym (apart_each (others v t.operations) s own t))
    (ended_each v s t.operations (with_operations [] t) refl)

-- Losses at one server
pub loses : (now : Stamp) (t : Turn) → Loses now t (cl.lose now t)
unfolding cl.lose cl.lose_by cl.lose_over cl.lose_session
loses now t = go t.here.session refl
  where
    go : (x : Option ClientSession) → t.here.session ≡ x → Loses now t (cl.lose_by t now x)
    go None e = HasNoSession e
    go (Some s) e = cond_either (Loses now t) (cl.is_over t s now) _ t (λ o. IsLost s (cl.end_operations (loss_noted t) s) e o (ended_all s (loss_noted t)))
        (λ o. Lasts s e o)
