-- Through the losses and the rule for the input: no lease of the client is over.
use Rattle.st_lemmas.proofs.Words
use Words.{◌≡◌, ℕ, Bool, true, false, List, [], ◌∷◌, ◌++◌, refl, sym, ap, ◌∙◌, Option, Some, None, if◌then◌else◌, not, ◌&&◌, list_all}
use Words.{Config, ServerId, Stamp, Tag, FileId, Ask, Body, Header, Ended, IoKind, PageCommand}
use Words.Tables.{and_both, and_true}
use Words.asks
use Words.ends.{Unknown, Filled, Hard, Redirty, Failed}
use Words.io.{Read, Write}
use Words.Client as rules
use Words.Client.{filled_by, hardened, mark_failed, failed_as, finish_as, ended_by, finish_command, done_by, finish_by, finish_at, finish, tell_lost}
use Words.Client.{lose_session, lose_over, lose_by, lose, enqueue, take_sync, take_by, take_ask}
use Words.ClientInvariants.{all_last, lasts_here, lasts_in}
use Words.ClientPages as pages
use Words.ClientReplies.{receive_at}
use Words.ClientState.{Association, ClientSession, ClientTurn, Turn, answer_each, at_each, at_these, enter, is_at, leave, only_at}
use Rattle.st_client.proofs.ReceiveGrows.{receive_grows}
use Rattle.st_client.proofs.ReceiveLasts.{Here, receive_lasts}
use Rattle.st_client.proofs.InputsGrow.{finish_grows, lose_grows, take_ask_grows}
use Rattle.st_client.specs.Machines.{Advances}

all_last_one : (p : Association → Bool) (xs : List Association) (a : Association) → list_all p xs ≡ true → p a ≡ true → list_all p (xs ++ a ∷ []) ≡ true
all_last_one p [] a h e = and_both (p a) true e refl
all_last_one p (x ∷ xs) a h e =
    let s = and_true (p x) (list_all p xs) h in
    and_both (p x) (list_all p (xs ++ a ∷ [])) s.0 (all_last_one p xs a s.1 e)

-- the same holds of each
pub all_same : (b : Bool) (xs : List Association) → b ≡ true → list_all (λ a. b) xs ≡ true
all_same b [] h = refl
all_same b (x ∷ xs) h = and_both b (list_all (λ a. b) xs) h (all_same b xs h)

pub all_both : (b : Bool) (p : Association → Bool) (xs : List Association) → b ≡ true → list_all p xs ≡ true → list_all (λ a. b && p a) xs ≡ true
all_both b p [] e h = refl
all_both b p (x ∷ xs) e h =
    let s = and_true (p x) (list_all p xs) h in
    and_both (b && p x) (list_all (λ a. b && p a) xs) (and_both b (p x) e s.0) (all_both b p xs e s.1)

module _ (now : Stamp) (before : Config → Association → Bool) (f : Turn → Turn) (keeps : (t : Turn) → before t.config t.here ≡ true → lasts_here t.config now (f t).here ≡ true) where
  these_last : (xs : List Association) (t : ClientTurn) → list_all (before t.state.config) xs ≡ true → all_last t.state now ≡ true → all_last (at_these f xs t).state now ≡ true
  unfolding at_these
  these_last [] t h l = l
  these_last (a ∷ xs) t h l =
      let s = and_true (before t.state.config a) (list_all (before t.state.config) xs) h in
      these_last xs (leave t (f (enter t a))) s.1
      (all_last_one (lasts_here t.state.config now) t.state.associations (f (enter t a)).here l (keeps (enter t a) s.0))

  pub each_last : (t : ClientTurn) → list_all (before t.state.config) t.state.associations ≡ true → all_last (at_each f t).state now ≡ true
  unfolding at_each
  each_last t h = these_last t.state.associations (record t { state = record t.state { associations = [] } }) h refl

-- a turn whose lease lasts, by the settings from before the rule
by_before : (now : Stamp) (t u : Turn) → Advances t u → Here now u → lasts_here t.config now u.here ≡ true
by_before now t u g h = ap (λ k. lasts_here k now u.here) (sym g.1.1) ∙ h

either_last : (now : Stamp) (b : Bool) (x y : Turn) → Here now x → Here now y → Here now (if b then x else y)
either_last now true x y p q = p
either_last now false x y p q = q

-- Losses.

lose_over_last : (t : Turn) (now : Stamp) (s : ClientSession) → t.here.session ≡ Some s → Here now (lose_over t s now)
unfolding lose_over lose_session
lose_over_last t now s e = by (rules.is_over t s now) refl
  where
    by : (b : Bool) → rules.is_over t s now ≡ b → Here now (if b then lose_session t s else t)
    by true h = refl
    by false h = ap (lasts_in t.config now) e ∙ ap not h

lose_by_last : (t : Turn) (now : Stamp) (o : Option ClientSession) → t.here.session ≡ o → Here now (lose_by t now o)
unfolding lose_by
lose_by_last t now None e = ap (lasts_in t.config now) e
lose_by_last t now (Some s) e = lose_over_last t now s e

lose_last : (now : Stamp) (t : Turn) → Here now (lose now t)
unfolding lose
lose_last now t = lose_by_last t now t.here.session refl

pub losses_last : (now : Stamp) (t : ClientTurn) → all_last (at_each (lose now) t).state now ≡ true
losses_last now t =
    each_last now (λ k a. true) (lose now) (λ u h. by_before now u (lose now u) (lose_grows now u) (lose_last now u)) t (all_same true t.state.associations refl)

-- Messages.

pub received_last : (now : Stamp) (h : Header) (body : Body) (t : ClientTurn) → all_last t.state now ≡ true → all_last (at_each (receive_at now h body) t).state now ≡ true
received_last now h body t l =
    each_last now (λ k a. lasts_here k now a) (receive_at now h body) (λ u e. by_before now u (receive_at now h body u) (receive_grows now h body u) (receive_lasts now h body u e)) t l

-- Asks.

sync_last : (t : Turn) (op : ℕ) (ask : Ask) (f : FileId) (now : Stamp) → Here now t → Here now (take_sync t op ask f)
unfolding take_sync tell_lost enqueue
sync_last t op ask f now h = either_last now (pages.has_lost t.here.lost f.ino) (tell_lost t op f.ino) (enqueue t op ask) h h

take_by_last : (t : Turn) (op : ℕ) (ask other : Ask) (now : Stamp) → Here now t → Here now (take_by t op ask other)
unfolding take_by enqueue
take_by_last t op ask (asks.Sync f) now h = sync_last t op ask f now h
take_by_last t op ask (asks.Write f p bytes) now h = h
take_by_last t op ask (asks.Read f p) now h = h
take_by_last t op ask (asks.Cut f p) now h = h
take_by_last t op ask (asks.Name s name) now h = h
take_by_last t op ask (asks.Patch f p at bytes) now h = h

asked_last : (s : ServerId) (op : ℕ) (ask : Ask) (now : Stamp) (t : Turn) → Here now t → lasts_here t.config now (only_at s (take_ask op ask) t).here ≡ true
unfolding only_at take_ask
asked_last s op ask now t h = by (is_at s t.here)
  where
    by : (b : Bool) → lasts_here t.config now (if b then take_ask op ask t else t).here ≡ true
    by true = by_before now t (take_ask op ask t) (take_ask_grows op ask t) (take_by_last t op ask ask now h)
    by false = h

pub taken_last : (now : Stamp) (s : ServerId) (op : ℕ) (ask : Ask) (t : ClientTurn) → all_last t.state now ≡ true → all_last (at_each (only_at s (take_ask op ask)) t).state now ≡ true
taken_last now s op ask t l = each_last now (λ k a. lasts_here k now a) (only_at s (take_ask op ask)) (λ u e. asked_last s op ask now u e) t l

-- Ends of commands.

marked_last : (t : Turn) (c : PageCommand) (version : ℕ) (now : Stamp) → Here now t → Here now (mark_failed t c version)
unfolding mark_failed
marked_last t c version now h = either_last now (rules.is_present t c version) (rules.with_failed c t) t h h

failed_last : (t : Turn) (c : PageCommand) (kind : IoKind) (now : Stamp) → Here now t → Here now (failed_as t c kind)
unfolding failed_as answer_each
failed_last t c Read now h = h
failed_last t c (Write version) now h = marked_last t c version now h

filled_last : (t : Turn) (c : PageCommand) (block : Option (Tag × List ℕ)) (now : Stamp) → Here now t → Here now (filled_by t c block)
unfolding filled_by
filled_last t c None now h = h
filled_last t c (Some block) now h = h

finished_last : (t : Turn) (c : PageCommand) (block : Option (Tag × List ℕ)) (ended : Ended) (now : Stamp) → Here now t → Here now (finish_as t c block ended)
unfolding finish_as hardened
finished_last t c block Unknown now h = h
finished_last t c block Filled now h = filled_last t c block now h
finished_last t c block Hard now h = h
finished_last t c block Redirty now h = h
finished_last t c block Failed now h = failed_last t c c.kind now h

command_last : (t : Turn) (c : PageCommand) (ok : Bool) (block : Option (Tag × List ℕ)) (now : Stamp) → Here now t → Here now (finish_command t c ok block)
unfolding finish_command ended_by
command_last t c ok block now h =
    let e = pages.end_command t.here.store.commands c.number ok (pages.version_of t.here.store.pages c.ino c.page) in
    finished_last (rules.with_commands e.commands t) c block e.ended now h

finish_by_last : (t : Turn) (c : PageCommand) (result : Option (Option (Tag × List ℕ))) (now : Stamp) → Here now t → Here now (finish_by t c result)
unfolding finish_by done_by
finish_by_last t c None now h = command_last t c false None now h
finish_by_last t c (Some block) now h = either_last now (rules.is_result_of c.kind block) (finish_command t c true block) t (command_last t c true block now h) h

finish_at_last : (t : Turn) (c : Option PageCommand) (result : Option (Option (Tag × List ℕ))) (now : Stamp) → Here now t → Here now (finish_at t c result)
unfolding finish_at
finish_at_last t None result now h = h
finish_at_last t (Some c) result now h = finish_by_last t c result now h

finish_last : (now : Stamp) (number : ℕ) (result : Option (Option (Tag × List ℕ))) (t : Turn) → Here now t → Here now (finish number result t)
unfolding finish
finish_last now number result t h = finish_at_last t (pages.command_of t.here.store.commands number) result now h

pub done_last : (now : Stamp) (number : ℕ) (result : Option (Option (Tag × List ℕ))) (t : ClientTurn) → all_last t.state now ≡ true → all_last (at_each (finish number result) t).state now ≡ true
done_last now number result t l =
    each_last now (λ k a. lasts_here k now a) (finish number result) (λ u e. by_before now u (finish number result u) (finish_grows number result u) (finish_last now number result u e)) t l
