-- A request for a name is answered, and served once: its client's session reaches its number.
use Rattle.st_lemmas.proofs.Words
use Words.{◌≡◌, ℕ, ◌⊎◌, Bool, true, false, List, ◌==◌, Some, refl, ap, ◌∙◌, subst, inl, inr, if◌then◌else◌, Result as Res, Ok, Err, GrantNo, Stamp, NameRow}
use Words.{Body, Header, Message, NameOp, EntryRefusal}
use Words.modes
use Words.bodies as bd
use Words.ops.{Lookup, Create, Mkdir, Remove, Rename, List as ListFrom}
use Words.serving.{Control}
use Words.Names as names
use Words.Sessions as sessions
use Words.Server as sv
use Words.Server.{ServerState, ServerTurn, Replied, sender, reply, tell, steal_from, suspect_client, rule, keep_and_reply, server_step}
use Rattle.st_laws_requests.specs.Replies.ServedRequests.{IsBehind}
use Rattle.st_laws_requests.proofs.Replies.Served.{stored_reached}
use Rattle.st_laws_requests.proofs.Rules.{ruled}
use Rattle.st_trace.specs.Server.Edits.{AtThefts, AtInput, AtSuspicion, AtGrants, AtDemands, Served, Ruled, Edit, TakesTimers, Steals, Welcomes, Begins}
use Rattle.st_trace.specs.Server.Edits.{Replaces, PutsOff, Sees, Reasserts, Serves, Repeats, Refuses, Suspects, Grants, Demands}
use Rattle.st_trace.proofs.Server.Walk.{walk_in_two}

-- The rule of a request for a name replies, and leaves the sessions.
pub record Replies (t : ServerTurn) (a : Replied) : Type 0 where
  pub body : Body
  pub is : a.reply ≡ Some body
  pub kept : a.turn.state.sessions ≡ t.state.sessions

replies_refused : (t : ServerTurn) (r : EntryRefusal) → Replies t (sv.name_refused t r)
unfolding sv.name_refused
replies_refused t r = record { body = _; is = refl; kept = refl }

replies_found : (t : ServerTurn) (r : Res ℕ EntryRefusal) → Replies t (sv.name_found t r)
unfolding sv.name_found
replies_found t (Ok ino) = record { body = _; is = refl; kept = refl }
replies_found t (Err r) = replies_refused t r

replies_changed : (t : ServerTurn) (r : Res names.Changed EntryRefusal) → Replies t (sv.name_changed t r)
unfolding sv.name_changed
replies_changed t (Ok d) = record { body = _; is = refl; kept = refl }
replies_changed t (Err r) = replies_refused t r

replies_listed : (t : ServerTurn) (r : Res (List NameRow) EntryRefusal) → Replies t (sv.names_listed t r)
unfolding sv.names_listed
replies_listed t (Ok rows) = record { body = _; is = refl; kept = refl }
replies_listed t (Err r) = replies_refused t r

replies_removed : (t : ServerTurn) (r : Res names.Changed EntryRefusal) → Replies t (sv.remove_by t r)
unfolding sv.remove_by sv.cut_whole sv.cut_pages
replies_removed t (Ok d) = record { body = _; is = refl; kept = refl }
replies_removed t (Err r) = replies_refused t r

replies_choice : (t : ServerTurn) (c : Bool) (a b : Replied) → Replies t a → Replies t b → Replies t (if c then a else b)
replies_choice t true a b p q = p
replies_choice t false a b p q = q

replies_not_holder : (t : ServerTurn) (ino : ℕ) (g : GrantNo) → Replies t (sv.not_holder t ino g)
unfolding sv.not_holder
replies_not_holder t ino g = record { body = _; is = refl; kept = refl }

replies_remove : (t : ServerTurn) (h : Header) (dir : ℕ) (x : List ℕ) (g : GrantNo) (r : Res ℕ EntryRefusal) → Replies t (sv.remove_found t h dir x g r)
unfolding sv.remove_found sv.remove_ino sv.remove_file sv.remove_dir
replies_remove t h dir x g (Err r) = replies_refused t r
replies_remove t h dir x g (Ok ino) = replies_choice t (sv.is_file t ino) _ _
    (replies_choice t (sv.holds t h ino g modes.X) _ _ (replies_removed t _) (replies_not_holder t ino g))
    (replies_choice t (g.0 == 0) _ _ (replies_changed t _) (replies_refused t _))

pub name_replies : (t : ServerTurn) (now : Stamp) (h : Header) (op : NameOp) → Replies t (rule t now h (bd.Name op))
unfolding rule sv.name sv.remove
name_replies t now h (Lookup dir x) = replies_found t _
name_replies t now h (Create dir x) = replies_changed t _
name_replies t now h (Mkdir dir x) = replies_changed t _
name_replies t now h (Remove dir x g) = replies_remove t h dir x g _
name_replies t now h (Rename dir x dir2 x2) = replies_changed t _
name_replies t now h (ListFrom dir after) = replies_listed t _

-- The names stay, or the request that came is served, and its session reaches its number.
module _ (x : ServerState) (now : Stamp) (m : Message) where
  abbrev Same : ServerTurn → Type 0
  Same t = t.state.stable.names ≡ x.stable.names

  abbrev Behind : Message → ServerTurn → Type 0
  Behind k t = IsBehind (sessions.session_of t.state.sessions (sender k.header)) k.header.life k.header.number

  abbrev D : ServerTurn → Type 0
  D t = Same t ⊎ Behind m t

  steals : (t u : ServerTurn) → Edit x now (Control m) AtThefts t u → Same t → Same u
  unfolding steal_from
  steals t u (TakesTimers _ e) p = p
  steals t u (Steals _ c y h e) p = p

  serves : (t u : ServerTurn) (k : Message) (b : Body) → Served x now (Control m) t k → Ruled now t k.header k.body u b → Behind k (keep_and_reply u k.header b)
  unfolding keep_and_reply reply
  serves t u k b s r =
      let z = s.in_life in
      let kept = (ruled (λ t. Unit {0}) (λ t x a b c o. tt) (λ t x o. tt) now t k.header k.body u b r tt).1 in
      subst (λ l. IsBehind (sessions.session_of (sessions.store u.state.sessions (sender k.header) k.header.number b) (sender k.header)) l
      k.header.number) z.of_life
      (stored_reached u.state.sessions (sender k.header) k.header.number b z.session
      (ap (λ (v : sessions.Sessions). sessions.session_of v (sender k.header)) kept ∙ z.is)
      (record { last = z.last; reply = z.old; is = z.state; next = s.next }))

  came : (k : Message) → Control m ≡ Control k → k ≡ m
  came k e = cc

  takes : (t u : ServerTurn) → Edit x now (Control m) AtInput t u → Same t → D u
  unfolding reply suspect_client
  takes t u (Welcomes _ k y g e a f) p = inl p
  takes t u (Begins _ k g f) p = inl p
  takes t u (Replaces _ k y g e a f r) p = inl p
  takes t u (PutsOff _ k y g e a f r) p = inl p
  takes t u (Sees _ k ino g h b e) p = inl p
  takes t u (Reasserts _ k rows r on f) p = inl p
  takes t u (Serves _ k v b s e r) p = inr (subst (λ (z : Message). Behind z (keep_and_reply v k.header b)) (came k s.asked.heard.came.is) (serves t v k b s r))
  takes t u (Repeats _ k y b a e f g z) p = inl p
  takes t u (Refuses _ k b r) p = inl p

  suspects : (t u : ServerTurn) → Edit x now (Control m) AtSuspicion t u → D t → D u
  unfolding suspect_client
  suspects t u (Suspects _ c r is q f h e o) d = d

  grants : (t u : ServerTurn) → Edit x now (Control m) AtGrants t u → D t → D u
  unfolding tell
  grants t u (Grants _ w off h e f) d = d

  demands : (t u : ServerTurn) → Edit x now (Control m) AtDemands t u → D t → D u
  unfolding tell
  demands t u (Demands _ w r y e h f o d) q = q

-- The whole step, with a request for a name.
pub step_serves : (x : ServerState) (now : Stamp) (m : Message) (op : NameOp) → m.body ≡ bd.Name op →
    ((server_step x now (Control m)).state.stable.names ≡ x.stable.names)
    ⊎ IsBehind (sessions.session_of (server_step x now (Control m)).state.sessions (sender m.header)) m.header.life m.header.number
step_serves x now m op e =
    walk_in_two x now (Control m) (Same x now m) (D x now m) (steals x now m) (λ t p. inl p) (takes x now m) (suspects x now m) (grants x now m)
    (demands x now m) refl
