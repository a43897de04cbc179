-- A whole step of a client keeps the copies at all its servers.
use Rattle.st_lemmas.proofs.Words
use Words.{◌≡◌, ℕ, Bool, true, false, ◌&&◌, List, [], ◌∷◌, ◌++◌, ◌==◌, Option, Some, refl, sym, ap, ◌∙◌, subst, arith, if◌then◌else◌, append_assoc, Tag}
use Words.{ClientId, ServerId, Life, PageNo, Stamp, Ask, AppAnswer, Body, Header, Output, ClientInput, LogEntry, append-nil}
use Words.asks
use Words.answers
use Words.notes
use Words.outputs
use Words.inputs
use Words.Keys.{same_server}
use Words.FlatLog as log
use Words.FlatLog.{is_of_life, is_of_client}
use Words.Client as cl
use Words.ClientPages as pages
use Words.ClientPasses as cp
use Words.ClientReplies as cr
use Words.ClientState as st
use Words.ClientState.{Association, ClientState, ClientTurn, Turn, enter, leave, at_these, at_each, with_associations, client_turn}
use Words.Truth.{not_both}
use Rattle.st_laws_refine.specs.Client.World.{logged}
use Rattle.st_laws_reads.specs.Copies.Copies.{Right, RightOne, FatesOk, HardOn, AskedSo, Joined, AllOf, Keeps, file_at}
use Rattle.st_laws_reads.specs.Copies.Obligations.{MessageOwed, EndOwed, Numbered}
use Rattle.st_laws_reads.specs.Copies.Law.{CopiesAt, AllCopies, Apart, Lived, AllLived, StandsWhile, EachStands, AllWhile, AllOwed, LivesAre, StepsKeepCopies}
use Rattle.st_laws_reads.specs.Copies.Law.{JoinedBy}
use Rattle.st_laws_reads.proofs.Copies.Logs.{logged_both, right_both, still}
use Rattle.st_laws_reads.proofs.Copies.Away.{joined_content}
use Rattle.st_laws_reads.proofs.Copies.Copies.{copies_kept_by_same, copies_kept_by_sequence, copies_kept_by_choice, copies_kept_by_aside, copies_kept_by_keeping}
use Rattle.st_laws_reads.proofs.Copies.Receiving.{copies_kept_by_receive}
use Rattle.st_laws_reads.proofs.Copies.Ends.{copies_kept_by_end_of}
use Rattle.st_laws_reads.proofs.Copies.Passes.{copies_kept_by_passes}
use Rattle.st_laws_reads.proofs.Copies.Losing.{lose_keeps, Loses}
use Rattle.st_laws_reads.proofs.Copies.Everywhere.{SamePlaces, SameServers, same_self, same_next, servers_of, servers_self, servers_next, servers_amid}
use Rattle.st_laws_reads.proofs.Copies.Everywhere.{apart_same, Within, Made, AtEachOf, each_keep, joined_nothing, joined_next, joined_over}

-- what is owed holds in a log that goes on by entries of another server's files
hard_apart : (c : ClientId) (life : Life) (x : ServerId) (ino : ℕ) (p : PageNo) (l : List LogEntry) (e : LogEntry) → same_server e.of.file.server x ≡ false →
    HardOn c life x ino p l → HardOn c life x ino p (l ++ e ∷ [])
hard_apart c life x ino p [] e h r = record { one = λ q i j. absurd (not_both (is_of_life c x life e.of) q (never (is_of_client c e.of) h)); rest = record {} }
  where
    never : (a : Bool) → same_server e.of.file.server x ≡ false → (a && (same_server e.of.file.server x && (e.of.life.0 == life.0))) ≡ false
    never true h = ap (λ b. b && (e.of.life.0 == life.0)) h
    never false h = refl
hard_apart c life x ino p (z ∷ l) e h r = record { one = r.one; rest = hard_apart c life x ino p l e h r.rest }

hard_join : (c : ClientId) (life : Life) (x : ServerId) (ino : ℕ) (p : PageNo) (sv : ServerId) (l more : List LogEntry) → AllOf sv more →
    same_server sv x ≡ false → HardOn c life x ino p l → HardOn c life x ino p (l ++ more)
hard_join c life x ino p sv l [] a h r = subst (λ m. HardOn c life x ino p m) (sym (append-nil l)) r
hard_join c life x ino p sv l (e ∷ more) a h r =
    subst (λ m. HardOn c life x ino p m) (append_assoc l (e ∷ []) more)
    (hard_join c life x ino p sv (l ++ e ∷ []) more a.rest h (hard_apart c life x ino p l e (ap (λ s. same_server s x) a.one ∙ h) r))

message_away : (h : Header) (body : Body) (a : Association) (sv : ServerId) (l m : List LogEntry) → Joined sv l m → same_server sv a.server ≡ false →
    MessageOwed l a h body → MessageOwed m a h body
message_away h body a sv l m j n w =
    λ s e f g i. let r = w s e f g i in
    record {
      modes = r.modes;
      up = r.up;
      zeros = λ q ino g p x y z u v. r.zeros q ino g p x y z u v ∙
          sym (joined_content sv l m (file_at a.server ino) p j n);
      removed = r.removed;
    }

end_away : (c : ClientId) (lives : ServerId → Life) (number : ℕ) (result : Option (Option (Tag × List ℕ))) (a : Association) (sv : ServerId)
    (l m : List LogEntry) → Joined sv l m → same_server sv a.server ≡ false →
    EndOwed c (lives a.server) l a number result → EndOwed c (lives a.server) m a number result
end_away c lives number result a sv l m j n w =
    record {
      hard = λ x v e f g h. subst (λ z. HardOn c (lives a.server) a.server x.ino x.page z) (sym j.is)
          (hard_join c (lives a.server) a.server x.ino x.page sv l j.more j.own n (w.hard x v e f g h));
      read = λ x block e f g. w.read x block e f g ∙ sym (joined_content sv l m (file_at a.server x.ino) x.page j n);
    }

-- lives
lives_same : (lives : ServerId → Life) (xs ys : List Association) → SamePlaces xs ys → LivesAre lives ys → LivesAre lives xs
lives_same lives [] [] s l = record {}
lives_same lives (a ∷ xs) (b ∷ ys) s l = record { one = ap lives (sym s.there) ∙ l.one ∙ s.alive; rest = lives_same lives xs ys s.rest l.rest }
lives_same lives [] (b ∷ ys) s l = absurd s
lives_same lives (a ∷ xs) [] s l = absurd s

lives_at : (lives : ServerId → Life) (past rest : List Association) (a : Association) → LivesAre lives (past ++ a ∷ rest) → lives a.server ≡ a.life
lives_at lives [] rest a l = l.one
lives_at lives (x ∷ past) rest a l = lives_at lives past rest a l.rest

lived_last : (c : ClientId) (es : List LogEntry) (xs : List Association) (a : Association) → AllLived c es xs → Lived c a.server a.life es →
    AllLived c es (xs ++ a ∷ [])
lived_last c es [] a r l = record { one = l; rest = record {} }
lived_last c es (x ∷ xs) a r l = record { one = r.one; rest = lived_last c es xs a r.rest l }

lived_same : (c : ClientId) (es : List LogEntry) (xs ys : List Association) → SamePlaces xs ys → AllLived c es xs → AllLived c es ys
lived_same c es [] [] s l = record {}
lived_same c es (a ∷ xs) (b ∷ ys) s l =
    record {
      one = subst (λ v. Lived c v b.life es) (sym s.there) (subst (λ n. Lived c a.server n es) (sym s.alive) l.one);
      rest =
          lived_same c es xs ys s.rest l.rest;
    }
lived_same c es [] (b ∷ ys) s l = absurd s
lived_same c es (a ∷ xs) [] s l = absurd s

-- an entry of the present life joins
lived_more : (c : ClientId) (sv : ServerId) (life : Life) (es : List LogEntry) (e : LogEntry) → (e.of.file.server ≡ sv → e.of.life ≡ life) →
    Lived c sv life es → Lived c sv life (es ++ e ∷ [])
lived_more c sv life [] e h r = record { one = λ o s. let z : e.of.life.0 ≡ life.0 = ap (λ (n : Life). n.0) (h s) in omega (arith, z); rest = record {} }
lived_more c sv life (x ∷ es) e h r = record { one = r.one; rest = lived_more c sv life es e h r.rest }

lived_logged : (c : ClientId) (lives : ServerId → Life) (sv : ServerId) (life : Life) (os : List Output) (es : List LogEntry) → lives sv ≡ life →
    Lived c sv life es → Lived c sv life (logged c lives os es)
unfolding log.accept log.patch
lived_logged c lives sv life [] es e r = r
lived_logged c lives sv life (outputs.Send m ∷ os) es e r = lived_logged c lives sv life os es e r
lived_logged c lives sv life (outputs.Submit n a w ∷ os) es e r = lived_logged c lives sv life os es e r
lived_logged c lives sv life (outputs.Answer o a ∷ os) es e r = lived_logged c lives sv life os es e r
lived_logged c lives sv life (outputs.Note (notes.Accepted f p bytes) ∷ os) es e r =
    lived_logged c lives sv life os _ e (lived_more c sv life es _ (λ s. ap lives s ∙ e) r)
lived_logged c lives sv life (outputs.Note (notes.Patched f p at bytes) ∷ os) es e r =
    lived_logged c lives sv life os _ e (lived_more c sv life es _ (λ s. ap lives s ∙ e) r)
lived_logged c lives sv life (outputs.Note n ∷ os) es e r = lived_logged c lives sv life os es e r

-- the associations that are done stay, and others come after them
record GoesBehind (past final : List Association) : Type 0 where
  pub more : List Association
  pub is : final ≡ past ++ more

these_behind : (rule : Turn → Turn) (rest : List Association) (T : ClientTurn) → GoesBehind T.state.associations (at_these rule rest T).state.associations
unfolding at_these
these_behind rule [] T = record { more = []; is = sym (append-nil T.state.associations) }
these_behind rule (a ∷ rest) T =
    let u : Turn = rule (enter T a) in
    let b = these_behind rule rest (leave T u) in
    record { more = u.here ∷ b.more; is = b.is ∙ append_assoc T.state.associations (u.here ∷ []) b.more }

module _ (ask_of : ℕ → Option Ask) (c : ClientId) (lives : ServerId → Life) (es : List LogEntry) where
  -- within the losses
  record Losing (n : Stamp) (T : ClientTurn) (rest : List Association) : Type 0 where
    pub done : AllCopies c lives es T.state.associations
    pub lived : AllLived c es T.state.associations
    pub ahead : AllWhile T.state.config.lease n.0 c es rest
    pub log : logged c lives T.out es ≡ es
    pub right : Right ask_of c lives es T.out
    pub asked : AskedSo ask_of T.state.operations

  copies_last : (l : List LogEntry) (list : List Association) (a : Association) → AllCopies c lives l list → CopiesAt c lives l a →
      AllCopies c lives l (list ++ a ∷ [])
  copies_last l [] a r p = record { one = p; rest = record {} }
  copies_last l (x ∷ list) a r p = record { one = r.one; rest = copies_last l list a r.rest p }

  record Lost (n : Stamp) (T : ClientTurn) (rest : List Association) (U : ClientTurn) : Type 0 where
    pub log : logged c lives U.out es ≡ logged c lives T.out es
    pub servers : SameServers (T.state.associations ++ rest) U.state.associations
    pub losing : LivesAre lives U.state.associations → Losing n T rest → Losing n U []

  losses_these : (n : Stamp) (rest : List Association) (T : ClientTurn) → Lost n T rest (at_these (cl.lose n) rest T)
  unfolding at_these
  losses_these n [] T =
      record {
        log = refl;
        servers = subst (λ xs. SameServers xs T.state.associations) (sym (append-nil T.state.associations)) (servers_self T.state.associations);
        losing = λ l r. r;
      }
  losses_these n (a ∷ rest) T =
      let t : Turn = enter T a in
      let u : Turn = cl.lose n t in
      let w : Loses ask_of c lives es n t u = lose_keeps ask_of c lives es n t in
      let m = losses_these n rest (leave T u) in
      let b = these_behind (cl.lose n) rest (leave T u) in
      record {
        log = m.log ∙ w.log;
        servers = servers_next _ _ _ (servers_amid T.state.associations rest a u.here w.there)
            (subst (λ xs. SameServers xs (at_these (cl.lose n) rest (leave T u)).state.associations) (append_assoc T.state.associations (u.here ∷ []) rest)
            m.servers);
        losing = λ l r. m.losing l (next w r (at b l));
      }
    where
      at : GoesBehind (T.state.associations ++ (cl.lose n (enter T a)).here ∷ [])
          (at_these (cl.lose n) rest (leave T (cl.lose n (enter T a)))).state.associations →
          LivesAre lives (at_these (cl.lose n) rest (leave T (cl.lose n (enter T a)))).state.associations →
          lives (cl.lose n (enter T a)).here.server ≡ (cl.lose n (enter T a)).here.life
      at b l =
          let u : Turn = cl.lose n (enter T a) in
          lives_at lives T.state.associations b.more u.here (subst (λ xs. LivesAre lives xs) (b.is ∙ append_assoc T.state.associations (u.here ∷ []) b.more) l)

      next : Loses ask_of c lives es n (enter T a) (cl.lose n (enter T a)) → Losing n T (a ∷ rest) →
          lives (cl.lose n (enter T a)).here.server ≡ (cl.lose n (enter T a)).here.life → Losing n (leave T (cl.lose n (enter T a))) rest
      next w r e =
          let u : Turn = cl.lose n (enter T a) in
          record {
            done = copies_last es T.state.associations u.here r.done
                (subst (λ x. CopiesAt c lives x u.here) r.log (w.copies (subst (λ x. StandsWhile T.state.config.lease n.0 c x a) (sym r.log) r.ahead.one) e));
            lived = lived_last c es T.state.associations u.here r.lived
                (subst (λ x. Lived c u.here.server u.here.life x) r.log (w.lived (subst (λ x. Lived c a.server a.life x) (sym r.log) r.ahead.one.lived)));
            ahead = r.ahead.rest;
            log = w.log ∙ r.log;
            right = w.right r.right;
            asked = w.asked r.asked;
          }

  -- taking the input
  made_same : (T : ClientTurn) → Made ask_of c lives es T [] T
  made_same T =
      record {
        within = λ r. r;
        places = subst (λ xs. SamePlaces xs T.state.associations) (sym (append-nil T.state.associations)) (same_self T.state.associations);
        joined = joined_nothing T.state.associations _ _ refl;
      }

  made_then : (T U V : ClientTurn) → Made ask_of c lives es T [] U → Made ask_of c lives es U [] V → Made ask_of c lives es T [] V
  made_then T U V p q =
      let s : SamePlaces U.state.associations V.state.associations =
      subst (λ xs. SamePlaces xs V.state.associations) (append-nil U.state.associations) q.places in
      record {
        within = λ r. q.within (p.within r);
        places = same_next _ _ _ p.places s;
        joined = joined_next V.state.associations _ _ _ (joined_over U.state.associations V.state.associations _ _ (servers_of _ _ s) p.joined) q.joined;
      }

  made_if : (T : ClientTurn) (b : Bool) (U V : ClientTurn) → Made ask_of c lives es T [] U → Made ask_of c lives es T [] V →
      Made ask_of c lives es T [] (if b then U else V)
  made_if T true U V p q = p
  made_if T false U V p q = q

  -- an answer at once
  made_answer : (T : ClientTurn) (op : ℕ) (a : AppAnswer) →
      ((last : Option Output) (x : List LogEntry) → RightOne ask_of c lives last x (outputs.Answer op a)) →
      Made ask_of c lives es T [] (cl.answered_at_once T op a)
  made_answer T op a f =
      let same : logged c lives (T.out ++ outputs.Answer op a ∷ []) es ≡ logged c lives T.out es = logged_both c lives T.out (outputs.Answer op a ∷ []) es in
      record {
        within = λ r. record {
          done = subst (λ l. AllCopies c lives l T.state.associations) (sym same) r.done;
          ahead = record {};
          right = right_both ask_of c lives T.out (outputs.Answer op a ∷ []) es r.right (record { one = f _ (logged c lives T.out es); rest = record {} });
          asked = r.asked;
        };
        places = subst (λ xs. SamePlaces xs T.state.associations) (sym (append-nil T.state.associations)) (same_self T.state.associations);
        joined = joined_nothing T.state.associations _ _ same;
      }

  copies_kept_by_told_lost : (t : Turn) (op ino : ℕ) → Keeps ask_of c lives es t (cl.tell_lost t op ino)
  unfolding cl.tell_lost
  copies_kept_by_told_lost t op ino =
      let u : Turn = st.with_lost_rows (pages.untold t.here.lost ino) t in
      copies_kept_by_sequence ask_of c lives es t u _
      (record { keep = λ r. record { pages = r.pages; right = r.right; asked = r.asked; fates = r.fates }; away = still _ _ _ })
      (copies_kept_by_aside ask_of c lives es u t.operations t.next_command _ (λ x. refl) (λ r. record { one = record {}; rest = record {} }) (λ a. a))

  copies_kept_by_take : (op : ℕ) (ask : Ask) → ask_of op ≡ Some ask → (t : Turn) → Keeps ask_of c lives es t (cl.take_ask op ask t)
  unfolding cl.take_ask cl.take_by cl.take_sync cl.enqueue
  copies_kept_by_take op ask e t = go ask
    where
      go : (a : Ask) → Keeps ask_of c lives es t (cl.take_by t op ask a)
      go (asks.Sync f) = copies_kept_by_choice ask_of c lives es t (pages.has_lost t.here.lost f.ino) _ _ (λ h. copies_kept_by_told_lost t op f.ino)
          (λ h. copies_kept_by_keeping ask_of c lives es t (st.new_operation op ask) e)
      go a = copies_kept_by_keeping ask_of c lives es t (st.new_operation op ask) e

  copies_kept_by_only : (s : ServerId) (rule : Turn → Turn) → ((t : Turn) → Keeps ask_of c lives es t (rule t)) → (t : Turn) →
      Keeps ask_of c lives es t (st.only_at s rule t)
  unfolding st.only_at
  copies_kept_by_only s rule k t = copies_kept_by_choice ask_of c lives es t (st.is_at s t.here) _ t (λ h. k t) (λ h. copies_kept_by_same ask_of c lives es t)

  -- a premise of nothing
  free : (l : List LogEntry) (xs : List Association) → AtEachOf ask_of c lives es (λ l a. Unit {0}) l xs
  free l [] = record {}
  free l (a ∷ xs) = record { one = record {}; rest = free l xs }

  made_free : (rule : Turn → Turn) → ((t : Turn) → Keeps ask_of c lives es t (rule t)) → (T : ClientTurn) → Apart T.state.associations →
      Made ask_of c lives es T [] (at_each rule T)
  made_free rule k T d = each_keep ask_of c lives es (λ l a. Unit {0}) (λ a sv l m j n x. x) rule (λ t o. k t) T d
      (free (logged c lives T.out es) T.state.associations)

  owed_message : (l : List LogEntry) (m : _) (xs : List Association) → AllOwed c lives l (inputs.Control m) xs →
      AtEachOf ask_of c lives es (λ l a. MessageOwed l a m.header m.body) l xs
  owed_message l m [] o = record {}
  owed_message l m (a ∷ xs) o = record { one = o.one; rest = owed_message l m xs o.rest }

  owed_end : (l : List LogEntry) (number : ℕ) (result : Option (Option (Tag × List ℕ))) (xs : List Association) →
      AllOwed c lives l (inputs.Done number result) xs → AtEachOf ask_of c lives es (λ l a. EndOwed c (lives a.server) l a number result) l xs
  owed_end l number result [] o = record {}
  owed_end l number result (a ∷ xs) o = record { one = o.one; rest = owed_end l number result xs o.rest }

  made_input : (T : ClientTurn) (n : Stamp) (input : ClientInput) → Apart T.state.associations → Numbered ask_of input →
      AllOwed c lives (logged c lives T.out es) input T.state.associations → Made ask_of c lives es T [] (cl.take_input T n input)
  unfolding cl.take_input cl.app cl.app_known cl.done cr.receive cr.receive_here
  made_input T n inputs.Tick d a o = made_same T
  made_input T n (inputs.App op ask) d a o =
      made_if T (cl.is_full T.state) _ _ (made_answer T op answers.OpsFull (λ last x. record {}))
      (made_if T (cl.is_configured T.state (st.server_of ask)) _ _
      (made_free (st.only_at (st.server_of ask) (cl.take_ask op ask))
      (copies_kept_by_only (st.server_of ask) (cl.take_ask op ask) (copies_kept_by_take op ask a)) T d)
      (made_answer T op answers.NoFile (λ last x. record {})))
  made_input T n (inputs.Control m) d a o =
      made_if T (m.header.to == T.state.id.0) _ T
      (each_keep ask_of c lives es (λ l a. MessageOwed l a m.header m.body) (message_away m.header m.body) (cr.receive_at n m.header m.body)
      (copies_kept_by_receive ask_of c lives es n m.header m.body) T d (owed_message (logged c lives T.out es) m T.state.associations o)) (made_same T)
  made_input T n (inputs.Done number result) d a o =
      each_keep ask_of c lives es (λ l a. EndOwed c (lives a.server) l a number result) (end_away c lives number result) (cl.finish number result)
      (copies_kept_by_end_of ask_of c lives es number result) T d (owed_end (logged c lives T.out es) number result T.state.associations o)

  -- what holds after the step
  stands_by : (l : List LogEntry) (xs : List Association) → AllCopies c lives l xs → LivesAre lives xs → AllLived c l xs → EachStands c l xs
  stands_by l [] r e v = record {}
  stands_by l (a ∷ xs) r e v =
      record {
        one = record { pages = r.one.pages; fates = subst (λ n. FatesOk c n a.server a.store l) e.one r.one.fates; lived = v.one };
        rest =
            stands_by l xs r.rest e.rest v.rest;
      }

  all_logged : (os : List Output) (xs : List Association) → LivesAre lives xs → AllLived c es xs → AllLived c (logged c lives os es) xs
  all_logged os [] e v = record {}
  all_logged os (a ∷ xs) e v = record { one = lived_logged c lives a.server a.life os es e.one v.one; rest = all_logged os xs e.rest v.rest }

-- the associations after a step are with servers that differ, whatever holds of the copies
pub step_apart : (ask_of : ℕ → Option Ask) (c : ClientId) (lives : ServerId → Life) (es : List LogEntry) (s : ClientState) (n : Stamp) (input : ClientInput) →
    Apart s.associations → Numbered ask_of input →
    AllOwed c lives es input (cl.losses (client_turn s []) n).state.associations → Apart (cl.client_step s n input).state.associations
unfolding cl.client_step cl.work cl.losses at_each
step_apart ask_of c lives es s n input h a o =
    let T : ClientTurn = client_turn s [] in
    let U : ClientTurn = cl.losses T n in
    let V : ClientTurn = cl.take_input U n input in
    let lost : Lost ask_of c lives es n (with_associations [] T) s.associations U = losses_these ask_of c lives es n s.associations (with_associations [] T) in
    let d : Apart U.state.associations = apart_same _ _ lost.servers h in
    let taken : Made ask_of c lives es U [] V = made_input ask_of c lives es U n input d a
    (subst (λ l. AllOwed c lives l input U.state.associations) (sym lost.log) o) in
    let d2 : Apart V.state.associations = apart_same _ _ (servers_of _ _ taken.places) (subst (λ xs. Apart xs) (sym (append-nil U.state.associations)) d) in
    let worked : Made ask_of c lives es V [] (cl.client_step s n input) =
    made_free ask_of c lives es (cp.passes n (cl.is_tick input)) (copies_kept_by_passes ask_of c lives es n (cl.is_tick input)) V d2 in
    apart_same _ _ (servers_of _ _ worked.places) (subst (λ xs. Apart xs) (sym (append-nil V.state.associations)) d2)

pub steps_keep_copies : StepsKeepCopies
unfolding cl.client_step cl.work cl.losses at_each
steps_keep_copies ask_of c lives es s n input h a o e =
    let T : ClientTurn = client_turn s [] in
    let U : ClientTurn = cl.losses T n in
    let V : ClientTurn = cl.take_input U n input in
    let W : ClientTurn = cl.client_step s n input in
    let lost : Lost ask_of c lives es n (with_associations [] T) s.associations U = losses_these ask_of c lives es n s.associations (with_associations [] T) in
    let d : Apart U.state.associations = apart_same _ _ lost.servers h.apart in
    let taken : Made ask_of c lives es U [] V = made_input ask_of c lives es U n input d a
    (subst (λ l. AllOwed c lives l input U.state.associations) (sym lost.log) o) in
    let d2 : Apart V.state.associations = apart_same _ _ (servers_of _ _ taken.places) (subst (λ xs. Apart xs) (sym (append-nil U.state.associations)) d) in
    let worked : Made ask_of c lives es V [] W = made_free ask_of c lives es (cp.passes n (cl.is_tick input))
    (copies_kept_by_passes ask_of c lives es n (cl.is_tick input)) V d2 in
    let all : Made ask_of c lives es U [] W = made_then ask_of c lives es U V W taken worked in
    let places : SamePlaces U.state.associations W.state.associations =
    subst (λ xs. SamePlaces xs W.state.associations) (append-nil U.state.associations) all.places in
    let losing : Losing ask_of c lives es n U [] = lost.losing (lives_same lives _ _ places e)
    (record { done = record {}; lived = record {}; ahead = h.copies; log = refl; right = record {}; asked = h.asked }) in
    let r : Within ask_of c lives es W [] = all.within
    (record {
      done = subst (λ l. AllCopies c lives l U.state.associations) (sym losing.log) losing.done;
      ahead = record {};
      right = losing.right;
      asked =
          losing.asked;
    }) in
    record {
      stands =
          record {
            apart = apart_same _ _ (servers_of _ _ worked.places) (subst (λ xs. Apart xs) (sym (append-nil V.state.associations)) d2);
            copies = stands_by ask_of c lives es (logged c lives W.out es) W.state.associations r.done e
                (all_logged ask_of c lives es W.out W.state.associations e (lived_same c es _ _ places losing.lived));
            asked = r.asked;
          };
      right = r.right;
      joined = subst (λ l. JoinedBy W.state.associations l (logged c lives W.out es)) losing.log all.joined;
    }
