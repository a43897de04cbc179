-- Nothing of a server whose lease is over goes out: what is known of places, the pending operations and the outputs through a client's rules.
use Rattle.st_lemmas.proofs.Words
use Words.{◌≡◌, ℕ, Bool, true, false, ◌||◌, ◌==◌, not, List, [], ◌∷◌, Option, Some, None, Ok, Err, refl, sym, ap, ◌∙◌, if◌then◌else◌, filter, is_some, map}
use Words.{Result, ⊤, list_all, list_any, eqb-true, BlockAt, Tag, Epoch, FileId, GrantNo, PageNo, ServerId, Stamp, Mode, ExtentRow, AppAnswer, Ask, Body}
use Words.{Header, NameReply, Why, Note, Output, Asked, Ended, HeldLock, IoKind, KnownExtent, MappedBlock, Operation, PageCommand, Release, Request}
use Words.{WriteRefusal, DirtyPage}
use Words.commands
use Words.modes
use Words.Page.{filled}
use Words.Tables.{and_both, and_true, each_passes, found_at}
use Words.answers
use Words.asks
use Words.bodies
use Words.replies
use Words.why
use Words.notes
use Words.outputs
use Words.ends
use Words.io
use Words.stages.{Stuck}
use Words.FlatLog.{overlay}
use Words.Client as cl
use Words.ClientLease as lease
use Words.ClientLocks as locks
use Words.ClientPages as pages
use Words.ClientPages.{Pages, Store}
use Words.ClientPasses as cp
use Words.ClientReplies as cr
use Words.ClientState as cs
use Words.ClientState.{ClientSession, Turn, answer_to, say, server_of, with_session, with_store, with_operations}
use Words.Keys.{same_server, server_node}
use Words.Lookups.{or_left, or_right}
use Words.Tests.{all_last}
use Words.Truth.{if_either}
use Rattle.st_client.proofs.SoundLists.{all_append, all_filter, all_made, all_map, all_put}
use Rattle.st_client.specs.Losses.{is_elsewhere, is_other_operation, is_use}
use Rattle.st_rules.specs.declared.client.Asked.TheVariants as demands

module _ (v : ServerId) (known : BlockAt → Bool) (os : List Operation) where
  -- what is known of a page is at a block of another server
  abbrev pub lies : Option MappedBlock → Bool
  lies None = true
  lies (Some m) = known m.at

  abbrev pub is_placed : KnownExtent → Bool
  is_placed e = lies e.mapping

  abbrev pub is_row_placed : ExtentRow → Bool
  is_row_placed r = known r.at

  -- an operation of the server, or of another one
  abbrev pub is_fine : Operation → Bool
  is_fine o = cs.is_of v o || list_any (is_other_operation v o.op) os

  -- What holds of a step at a server, with a condition on its session and its greeting.
  abbrev pub Stands : (ServerId → Option ClientSession → Option Stamp → Type 0) → Turn → Type 0
  Stands C t =
      record {
        placed : list_all is_placed t.here.store.extents ≡ true;
        operations : list_all is_fine t.operations ≡ true;
        out : list_all (is_elsewhere v known os) t.out ≡ true;
        cond : C t.here.server t.here.session t.here.greeting;
      }

  -- The conditions: it is another server; it is one if there is a session; and it is one if there is a session or a greeting.
  abbrev pub Used : ServerId → Option ClientSession → Option Stamp → Type 0
  Used s o g = same_server s v ≡ false

  abbrev pub Usable : ServerId → Option ClientSession → Option Stamp → Type 0
  Usable s o g = is_some o ≡ true → same_server s v ≡ false

  abbrev pub Begun : ServerId → Option ClientSession → Option Stamp → Type 0
  Begun s o g = (is_some o || is_some g) ≡ true → same_server s v ≡ false

  abbrev U : Turn → Type 0
  U t = Stands Used t

  abbrev S : Turn → Type 0
  S t = Stands Usable t

  abbrev G : Turn → Type 0
  G t = Stands Begun t

  used : (t : Turn) (s : ClientSession) → t.here.session ≡ Some s → S t → U t
  used t s e w = record { placed = w.placed; operations = w.operations; out = w.out; cond = w.cond (ap is_some e) }

  usable : (t : Turn) → U t → S t
  usable t w = record { placed = w.placed; operations = w.operations; out = w.out; cond = λ e. w.cond }

  pub begun : (t : Turn) → G t → S t
  begun t w =
      record { placed = w.placed; operations = w.operations; out = w.out; cond = λ e. w.cond (or_left (is_some t.here.session) (is_some t.here.greeting) e) }

  begun_used : (t : Turn) (s : ClientSession) → t.here.session ≡ Some s → G t → U t
  begun_used t s e w =
      record
      { placed = w.placed; operations = w.operations; out = w.out; cond = w.cond (or_left (is_some t.here.session) (is_some t.here.greeting) (ap is_some e)) }

  greets_used : (t : Turn) → is_some t.here.greeting ≡ true → G t → U t
  greets_used t e w =
      record { placed = w.placed; operations = w.operations; out = w.out; cond = w.cond (or_right (is_some t.here.session) (is_some t.here.greeting) e) }

  answer_clear : (op : ℕ) (a : AppAnswer) → is_use a ≡ false → is_elsewhere v known os (outputs.Answer op a) ≡ true
  answer_clear op a e = or_left (not (is_use a)) (list_any (is_other_operation v op) os) (ap not e)

  -- Small changes.
  module _ (C : ServerId → Option ClientSession → Option Stamp → Type 0) where
    stands_after_say : (t : Turn) (o : Output) → is_elsewhere v known os o ≡ true → Stands C t → Stands C (say t o)
    stands_after_say t o e w = record { placed = w.placed; operations = w.operations; out = all_last (is_elsewhere v known os) t.out o w.out e; cond = w.cond }

    stands_after_send : (t : Turn) (epoch number stamp : ℕ) (b : Body) → Stands C t → Stands C (cs.send t epoch number stamp b)
    unfolding cs.send
    stands_after_send t epoch number stamp b w = stands_after_say t (outputs.Send (record { header = cs.header_of t epoch number stamp; body = b })) refl w

    stands_after_store : (t : Turn) (st : Store) → list_all is_placed st.extents ≡ true → Stands C t → Stands C (with_store st t)
    stands_after_store t st x w = record { placed = x; operations = w.operations; out = w.out; cond = w.cond }

    stands_after_answers : (t : Turn) (picked : Operation → Bool) (a : AppAnswer) → is_use a ≡ false → Stands C t → Stands C (cs.answer_each picked a t)
    unfolding cs.answer_each
    stands_after_answers t picked a e w =
        record {
          placed = w.placed;
          operations = all_filter is_fine (λ o. not (picked o)) t.operations w.operations;
          out =
              all_append (is_elsewhere v known os) t.out (map (answer_to a) (filter picked t.operations)) w.out
              (all_made (is_elsewhere v known os) (answer_to a) (λ o. answer_clear o.op a e) (filter picked t.operations));
          cond = w.cond;
        }

  -- Messages.

  -- what a message says about places concerns another server
  abbrev pub FineBody : Body → Type 0
  FineBody (bodies.Extents ino rows) = list_all is_row_placed rows ≡ true
  FineBody b = ⊤

  used_after_lease : (l : lease.ClientLease) (t : Turn) → U t → U (cr.note_lease l t)
  unfolding cr.note_lease
  used_after_lease l t w = stands_after_say Used t (outputs.Note (notes.Leased t.here.server (lease.end_of t.config l))) refl w

  used_after_begin : (t : Turn) (epoch : Epoch) (stamp : Stamp) → U t → U (cr.begin_session t epoch stamp)
  unfolding cr.begin_session
  used_after_begin t epoch stamp w = used_after_lease (lease.new_lease stamp) (cr.begin_here (cr.new_session epoch stamp) t) w

  begins_usable_after_welcome : (t : Turn) (now : Stamp) (epoch : Epoch) (stamp : Stamp) → G t → S (cr.welcome t now epoch stamp)
  unfolding cr.welcome
  begins_usable_after_welcome t now epoch stamp w = go (cr.is_timely t now stamp) refl
    where
      go : (b : Bool) → cr.is_timely t now stamp ≡ b → S (if b then cr.begin_session t epoch stamp else t)
      go true e = usable (cr.begin_session t epoch stamp) (used_after_begin t epoch stamp (greets_used t (and_true (is_some t.here.greeting) _ e).0 w))
      go false e = begun t w

  begins_usable_after_without : (t : Turn) (now : Stamp) (h : Header) (b : Body) → G t → S (cr.without_session t now h b)
  unfolding cr.without_session
  begins_usable_after_without t now h bodies.Welcome w = begins_usable_after_welcome t now (record { 0 = h.epoch }) (record { 0 = h.stamp }) w
  begins_usable_after_without t now h b w = begun t w

  used_after_newer : (t : Turn) (s : ClientSession) (epoch : Epoch) → U t → U (cr.newer_epoch t s epoch)
  unfolding cr.newer_epoch cr.follow_epoch
  used_after_newer t s epoch w =
      if_either U (cr.is_newer s epoch) (cr.follow_epoch t s epoch) t
      (stands_after_answers Used (with_session (cr.in_epoch epoch s) t) (cs.is_asked t.here.server) (answers.Uncertain s.epoch.0 epoch.0) refl w) w

  used_after_refused_in : (t : Turn) (s : ClientSession) (epoch : Epoch) (z : Why) → U t → U (cr.refused_in t s epoch z)
  used_after_refused_in t s epoch why.OtherEpoch w = used_after_newer t s epoch w
  used_after_refused_in t s epoch z w = w

  used_after_of_other : (t : Turn) (s : ClientSession) (epoch : Epoch) (b : Body) → U t → U (cr.of_other_epoch t s epoch b)
  unfolding cr.of_other_epoch
  used_after_of_other t s epoch (bodies.Nack z x y) w = used_after_refused_in t s epoch z w
  used_after_of_other t s epoch b w = w

  placed_put : (e : KnownExtent) (xs : List KnownExtent) → is_placed e ≡ true → list_all is_placed xs ≡ true → list_all is_placed (pages.with_known e xs) ≡ true
  placed_put e xs p h = all_put is_placed (pages.is_known_of e.ino e.page) e xs p h

  placed_rows : (ino : ℕ) (rows : List ExtentRow) (xs : List KnownExtent) → list_all is_row_placed rows ≡ true → list_all is_placed xs ≡ true →
      list_all is_placed (pages.with_known_rows ino rows xs) ≡ true
  unfolding pages.with_known_rows
  placed_rows ino [] xs f h = h
  placed_rows ino (r ∷ rs) xs f h =
      let p = and_true (is_row_placed r) (list_all is_row_placed rs) f in
      placed_rows ino rs (pages.with_known (pages.known_row ino r) xs) p.1 (placed_put (pages.known_row ino r) xs p.0 h)

  placed_learned : (ino : ℕ) (rows : List ExtentRow) (asked : Body) (st : Store) → list_all is_row_placed rows ≡ true → list_all is_placed st.extents ≡ true →
      list_all is_placed (cr.learned ino rows asked st).extents ≡ true
  placed_learned ino [] (bodies.Map i g p) st f h = placed_put (pages.known_unmapped ino p) st.extents refl h
  placed_learned ino (r ∷ rs) (bodies.Map i g p) st f h = placed_rows ino (r ∷ rs) st.extents f h
  placed_learned ino rows asked st f h = placed_rows ino rows st.extents f h

  used_after_extents : (t : Turn) (s : ClientSession) (ino : ℕ) (rows : List ExtentRow) (asked : Body) → list_all is_row_placed rows ≡ true → U t →
      U (cr.extents t s ino rows asked)
  unfolding cr.extents cr.learn
  used_after_extents t s ino rows asked f w =
      if_either U (cr.is_current s.locks asked) (cr.learn t ino rows asked) t
      (stands_after_store Used t (cr.learned ino rows asked t.here.store) (placed_learned ino rows asked t.here.store f w.placed) w) w

  used_after_held : (t : Turn) (s : ClientSession) (ino : ℕ) (o : Option HeldLock) → U t → U (cr.drop_held t s ino o)
  unfolding cr.drop_held cr.drop_lock
  used_after_held t s ino None w = w
  used_after_held t s ino (Some l) w = w

  used_after_removed : (t : Turn) (s : ClientSession) (file : Option ℕ) → U t → U (cr.removed t s file)
  unfolding cr.removed
  used_after_removed t s None w = w
  used_after_removed t s (Some ino) w = used_after_held t s ino (locks.lock_of s.locks ino) w

  used_after_named_as : (t : Turn) (s : ClientSession) (file : Option ℕ) (reply : NameReply) → U t → U (cr.named_as t s file reply)
  unfolding cr.named_as
  used_after_named_as t s file (replies.Ino ino) w = used_after_removed t s file w
  used_after_named_as t s file reply w = w

  name_unused : (reply : NameReply) → is_use (cr.name_answer reply) ≡ false
  name_unused (replies.Ino ino) = refl
  name_unused (replies.Listed rows) = refl
  name_unused (replies.Refused code) = refl

  used_after_named : (t : Turn) (s : ClientSession) (file : Option ℕ) (reply : NameReply) → U t → U (cr.named t s file reply)
  unfolding cr.named
  used_after_named t s file reply w =
      used_after_named_as (cs.answer_each (cs.is_asked t.here.server) (cr.name_answer reply) t) s file reply
      (stands_after_answers Used t (cs.is_asked t.here.server) (cr.name_answer reply) (name_unused reply) w)

  used_after_file : (t : Turn) (a : AppAnswer) (file : Option ℕ) → is_use a ≡ false → U t → U (cr.refuse_file t a file)
  unfolding cr.refuse_file
  used_after_file t a None e w = w
  used_after_file t a (Some ino) e w = stands_after_answers Used t (cr.works_on t ino) a e w

  used_after_page : (t : Turn) (a : AppAnswer) (file : Option ℕ) (page : Option PageNo) → is_use a ≡ false → U t → U (cr.refuse_page t a file page)
  unfolding cr.refuse_page
  used_after_page t a None None e w = w
  used_after_page t a None (Some p) e w = w
  used_after_page t a (Some ino) None e w = w
  used_after_page t a (Some ino) (Some p) e w = stands_after_answers Used t (cr.writes_on t ino p) a e w

  used_after_holder : (t : Turn) (asked : Body) → U t → U (cr.refuse_holder t asked)
  unfolding cr.refuse_holder
  used_after_holder t asked w = if_either U (cs.asks_cut_or_remove asked) _ t (stands_after_answers Used t (cs.is_asked t.here.server) answers.NotHolder refl w)
      w

  used_after_as : (t : Turn) (a b : ℕ) (file : Option ℕ) (asked : Body) (z : Why) → U t → U (cr.refuse_as t z a b file asked)
  unfolding cr.refuse_as
  used_after_as t a b file asked why.NotHolder w = used_after_holder t asked w
  used_after_as t a b file asked why.NoFile w = used_after_file t answers.NoFile file refl w
  used_after_as t a b file asked why.NoSpace w = used_after_page t (answers.NoSpace a b) file (cs.page_asked asked) refl w
  used_after_as t a b file asked why.TooManyLocks w = used_after_file t answers.TooManyLocks file refl w
  used_after_as t a b file asked z w = w

  used_after_stuck : (t : Turn) → U t → U (cr.leave_stuck t)
  unfolding cr.leave_stuck
  used_after_stuck t w =
      record {
        placed = w.placed;
        operations =
            all_map is_fine (cr.stuck t) (λ o e. if_either (λ (x : Operation). is_fine x ≡ true) (cs.is_asked t.here.server o) (cs.at_stage Stuck o) o e e)
            t.operations w.operations;
        out = w.out;
        cond = w.cond;
      }

  used_after_refused : (t : Turn) (z : Why) (a b : ℕ) (file : Option ℕ) (asked : Body) → U t → U (cr.refused t z a b file asked)
  unfolding cr.refused
  used_after_refused t z a b file asked w = used_after_stuck (cr.refuse_as t z a b file asked) (used_after_as t a b file asked z w)

  used_after_effect : (t : Turn) (s : ClientSession) (now : Stamp) (file : Option ℕ) (asked : Body) (b : Body) → FineBody b → U t →
      U (cr.effect t s now b file asked)
  unfolding cr.effect cr.granted cr.queued cr.acknowledged cr.reasserted
  used_after_effect t s now file asked (bodies.Granted ino g mode) f w = w
  used_after_effect t s now file asked (bodies.Queued ino mode) f w = w
  used_after_effect t s now file asked (bodies.Extents ino rows) f w = used_after_extents t s ino rows asked f w
  used_after_effect t s now file asked bodies.Ack f w = stands_after_answers Used t (cs.is_asked t.here.server) answers.Cut refl w
  used_after_effect t s now file asked (bodies.Named reply) f w = used_after_named t s file reply w
  used_after_effect t s now file asked bodies.Reasserted f w = w
  used_after_effect t s now file asked (bodies.Nack z a b) f w = used_after_refused t z a b file asked w
  used_after_effect t s now file asked b f w = w

  used_after_end : (t : Turn) (s : ClientSession) (stamp : Stamp) → U t → U (cr.end_request t s stamp)
  unfolding cr.end_request cr.note_renewal
  used_after_end t s stamp w =
      let l = lease.renewed stamp s.lease in
      if_either U (lease.is_renewal stamp s.lease) (cr.note_lease l t) t (used_after_lease l t w) w

  used_after_reply_to : (t : Turn) (s : ClientSession) (now stamp : Stamp) (reply asked : Body) → FineBody reply → U t →
      U (cr.reply_to t s now stamp reply asked)
  unfolding cr.reply_to
  used_after_reply_to t s now stamp reply asked f w = used_after_effect (cr.end_request t s stamp) (cr.ended_by stamp s) now (cs.file_asked s.cutting asked)
      asked reply f (used_after_end t s stamp w)

  used_after_counted : (t : Turn) (s : ClientSession) (now : Stamp) (number : ℕ) (stamp : Stamp) (reply : Body) (o : Option Request) → FineBody reply → U t →
      U (cr.counted t s now number stamp reply o)
  unfolding cr.counted cr.by_request cr.count_reply cr.condemn
  used_after_counted t s now number stamp reply None f w = w
  used_after_counted t s now number stamp reply (Some q) f w =
      if_either U (cr.is_counting number reply q) (cr.count_reply t s now stamp reply q.body) t
      (if_either U (cr.refuses_reassertion reply q.body) (cr.condemn t s) (cr.reply_to t s now stamp reply q.body) w
      (used_after_reply_to t s now stamp reply q.body f w)) w

  used_after_reply : (t : Turn) (s : ClientSession) (now : Stamp) (h : Header) (reply : Body) → FineBody reply → U t → U (cr.reply_of t s now h reply)
  unfolding cr.reply_of
  used_after_reply t s now h reply f w = used_after_counted t s now h.number (record { 0 = h.stamp }) reply s.requests.asked f w

  used_after_nack : (t : Turn) (s : ClientSession) (now : Stamp) (h : Header) (a b : ℕ) (z : Why) → U t → U (cr.nack t s now h z a b)
  unfolding cr.condemn
  used_after_nack t s now h a b why.Suspect w = w
  used_after_nack t s now h a b why.NoSession w = w
  used_after_nack t s now h a b why.OtherEpoch w = w
  used_after_nack t s now h a b why.Grace w = w
  used_after_nack t s now h a b why.GraceOver w = w
  used_after_nack t s now h a b why.Conflict w = w
  used_after_nack t s now h a b z w = used_after_reply t s now h (bodies.Nack z a b) tt w

  used_after_grant : (t : Turn) (s : ClientSession) (now : Stamp) (h : Header) (ino : ℕ) (g : GrantNo) (mode : Mode) → U t →
      U (cr.grant_or_reply t s now h ino g mode)
  unfolding cr.grant_or_reply cr.granted
  used_after_grant t s now h ino g mode w = if_either U (h.number == 0) (cr.granted t s ino g mode) (cr.reply_of t s now h (bodies.Granted ino g mode)) w
      (used_after_reply t s now h (bodies.Granted ino g mode) tt w)

  used_after_demand_as : (t : Turn) (s : ClientSession) (ino : ℕ) (g : GrantNo) (a : Asked) → U t → U (cr.demand_as t s ino g a)
  unfolding cr.demand_as cr.observe_demand
  used_after_demand_as t s ino g demands.Reduce w = stands_after_send Used (with_session s t) s.epoch.0 0 0 (bodies.DemandSeen ino g) w
  used_after_demand_as t s ino g demands.NotHeld w = w
  used_after_demand_as t s ino g demands.Stale w = w

  used_after_demand : (t : Turn) (s : ClientSession) (ino : ℕ) (g : GrantNo) (to : Mode) → U t → U (cr.demand t s ino g to)
  unfolding cr.demand cr.demand_by
  used_after_demand t s ino g to w = used_after_demand_as t (cs.with_cache (locks.demand s.locks ino g to).locks s) ino g (locks.demand s.locks ino g to).asked
      w

  used_after_epoch : (t : Turn) (s : ClientSession) (now : Stamp) (h : Header) (b : Body) → FineBody b → U t → U (cr.of_epoch t s now h b)
  unfolding cr.of_epoch
  used_after_epoch t s now h (bodies.Nack z x y) f w = used_after_nack t s now h x y z w
  used_after_epoch t s now h (bodies.Granted ino g mode) f w = used_after_grant t s now h ino g mode w
  used_after_epoch t s now h (bodies.Demand ino g to) f w = used_after_demand t s ino g to w
  used_after_epoch t s now h b f w = used_after_reply t s now h b f w

  used_after_session : (t : Turn) (s : ClientSession) (now : Stamp) (h : Header) (b : Body) → FineBody b → U t → U (cr.with_a_session t s now h b)
  unfolding cr.with_a_session
  used_after_session t s now h b f w =
      if_either U (h.epoch == s.epoch.0) (cr.of_epoch t s now h b) (cr.of_other_epoch t s (record { 0 = h.epoch }) b) (used_after_epoch t s now h b f w)
      (used_after_of_other t s (record { 0 = h.epoch }) b w)

  module _ (now : Stamp) (h : Header) (b : Body) (tells : (s : ServerId) → (h.from == server_node s) ≡ true → same_server s v ≡ false → FineBody b) where
    begins_usable_after_by : (t : Turn) (o : Option ClientSession) → t.here.session ≡ o → (h.from == server_node t.here.server) ≡ true → G t →
        S (cr.by_session t now h b o)
    unfolding cr.by_session
    begins_usable_after_by t None e f w = begins_usable_after_without t now h b w
    begins_usable_after_by t (Some s) e f w =
        let u = begun_used t s e w in
        usable (cr.with_a_session t s now h b) (used_after_session t s now h b (tells t.here.server f u.cond) u)

    pub begins_usable_after_receive : (t : Turn) → G t → S (cr.receive_at now h b t)
    unfolding cr.receive_at
    begins_usable_after_receive t w = go (cr.is_received t now h) refl
      where
        go : (z : Bool) → cr.is_received t now h ≡ z → S (if z then cr.by_session t now h b t.here.session else t)
        go true e = begins_usable_after_by t t.here.session refl (and_true (h.from == server_node t.here.server) _ e).0 w
        go false e = begun t w

  -- Ends of commands, and asks.
  module _ (C : ServerId → Option ClientSession → Option Stamp → Type 0) where
    stands_after_failed : (t : Turn) (c : PageCommand) (kind : IoKind) → Stands C t → Stands C (cl.failed_as t c kind)
    unfolding cl.failed_as cl.mark_failed
    stands_after_failed t c io.Read w = stands_after_answers C t (cl.waits_for_read t c) (answers.DiskFault c.number) refl w
    stands_after_failed t c (io.Write version) w =
        stands_after_answers C (cl.mark_failed t c version) (cl.waits_for_write t c) (answers.DiskFault c.number) refl
        (if_either (Stands C) (cl.is_present t c version) (cl.with_failed c t) t w w)

    stands_after_filled : (t : Turn) (c : PageCommand) (block : Option (Tag × List ℕ)) → Stands C t → Stands C (cl.filled_by t c block)
    unfolding cl.filled_by
    stands_after_filled t c None w = w
    stands_after_filled t c (Some block) w = w

    stands_after_finished : (t : Turn) (c : PageCommand) (block : Option (Tag × List ℕ)) (e : Ended) → Stands C t → Stands C (cl.finish_as t c block e)
    unfolding cl.finish_as cl.hardened
    stands_after_finished t c block ends.Unknown w = w
    stands_after_finished t c block ends.Filled w = stands_after_filled t c block w
    stands_after_finished t c block ends.Hard w = w
    stands_after_finished t c block ends.Redirty w = w
    stands_after_finished t c block ends.Failed w = stands_after_failed t c c.kind w

    stands_after_command : (t : Turn) (c : PageCommand) (ok : Bool) (block : Option (Tag × List ℕ)) → Stands C t → Stands C (cl.finish_command t c ok block)
    unfolding cl.finish_command cl.ended_by
    stands_after_command t c ok block w =
        let e = pages.end_command t.here.store.commands c.number ok (pages.version_of t.here.store.pages c.ino c.page) in
        stands_after_finished (cl.with_commands e.commands t) c block e.ended w

    stands_after_finish_by : (t : Turn) (c : PageCommand) (result : Option (Option (Tag × List ℕ))) → Stands C t → Stands C (cl.finish_by t c result)
    unfolding cl.finish_by cl.done_by
    stands_after_finish_by t c None w = stands_after_command t c false None w
    stands_after_finish_by t c (Some block) w = if_either (Stands C) (cl.is_result_of c.kind block) (cl.finish_command t c true block) t
        (stands_after_command t c true block w) w

    stands_after_finish_at : (t : Turn) (c : Option PageCommand) (result : Option (Option (Tag × List ℕ))) → Stands C t → Stands C (cl.finish_at t c result)
    unfolding cl.finish_at
    stands_after_finish_at t None result w = w
    stands_after_finish_at t (Some c) result w = stands_after_finish_by t c result w

    pub stands_after_finish : (number : ℕ) (result : Option (Option (Tag × List ℕ))) (t : Turn) → Stands C t → Stands C (cl.finish number result t)
    unfolding cl.finish
    stands_after_finish number result t w = stands_after_finish_at t (pages.command_of t.here.store.commands number) result w

    stands_after_tell : (t : Turn) (op ino : ℕ) → Stands C t → Stands C (cl.tell_lost t op ino)
    unfolding cl.tell_lost
    stands_after_tell t op ino w = stands_after_say C t (outputs.Answer op (answers.Lost (pages.told_rows t.here.lost ino))) refl w

    stands_after_pend : (t : Turn) (op : ℕ) (ask : Ask) → is_fine (cs.new_operation op ask) ≡ true → Stands C t → Stands C (cl.enqueue t op ask)
    unfolding cl.enqueue
    stands_after_pend t op ask f w =
        record { placed = w.placed; operations = all_last is_fine t.operations (cs.new_operation op ask) w.operations f; out = w.out; cond = w.cond }

    stands_after_take_by : (t : Turn) (op : ℕ) (ask other : Ask) → is_fine (cs.new_operation op ask) ≡ true → Stands C t → Stands C (cl.take_by t op ask other)
    unfolding cl.take_by cl.take_sync
    stands_after_take_by t op ask (asks.Sync f) e w = if_either (Stands C) (pages.has_lost t.here.lost f.ino) (cl.tell_lost t op f.ino) (cl.enqueue t op ask)
        (stands_after_tell t op f.ino w) (stands_after_pend t op ask e w)
    stands_after_take_by t op ask other e w = stands_after_pend t op ask e w

    pub stands_after_take : (s : ServerId) (op : ℕ) (ask : Ask) → is_fine (cs.new_operation op ask) ≡ true → (t : Turn) → Stands C t →
        Stands C (cs.only_at s (cl.take_ask op ask) t)
    unfolding cs.only_at cl.take_ask
    stands_after_take s op ask e t w = if_either (Stands C) (cs.is_at s t.here) (cl.take_by t op ask ask) t (stands_after_take_by t op ask ask e w) w

  -- Operations.

  placed_at : (xs : List KnownExtent) (ino : ℕ) (p : PageNo) (m : MappedBlock) → list_all is_placed xs ≡ true → pages.mapping_of xs ino p ≡ Some m →
      known m.at ≡ true
  placed_at xs ino p m h e = go (pages.known_of xs ino p) refl e
    where
      none : ◌≡◌ {A = Option MappedBlock} None (Some m) → known m.at ≡ true
      none q = cc

      go : (o : Option KnownExtent) → pages.known_of xs ino p ≡ o → pages.mapping_at o ≡ Some m → known m.at ≡ true
      go None f q = none q
      go (Some x) f q = ap lies (sym q) ∙ each_passes is_placed xs h x (found_at (pages.is_known_of ino p) xs x f).1

  -- an operation of another server is one that was pending, or came
  own_fine : (s : ServerId) (o : Operation) → same_server s v ≡ false → cs.is_of s o ≡ true → is_fine o ≡ true → list_any (is_other_operation v o.op) os ≡ true
  own_fine s o n e f = go (cs.is_of v o) (ap (λ z. z == v.0) (eqb-true (server_of o.ask).0 s.0 e) ∙ n) f
    where
      go : (b : Bool) → b ≡ false → (b || list_any (is_other_operation v o.op) os) ≡ true → list_any (is_other_operation v o.op) os ≡ true
      go true q f = cc
      go false q f = f

  used_after_keeping : (t : Turn) (o : Operation) → is_fine o ≡ true → U t → U (cs.keep o t)
  used_after_keeping t o f w = record { placed = w.placed; operations = all_last is_fine t.operations o w.operations f; out = w.out; cond = w.cond }

  usable_after_keeping : (t : Turn) (o : Operation) → is_fine o ≡ true → S t → S (cs.keep o t)
  usable_after_keeping t o f w = record { placed = w.placed; operations = all_last is_fine t.operations o w.operations f; out = w.out; cond = w.cond }

  -- a read or a write of an operation of another server is answered
  use_clear : (o : Operation) (a : AppAnswer) → list_any (is_other_operation v o.op) os ≡ true → is_elsewhere v known os (outputs.Answer o.op a) ≡ true
  use_clear o a e = or_right (not (is_use a)) (list_any (is_other_operation v o.op) os) e

  used_after_change : (t : Turn) (o : Operation) (f : FileId) (p : PageNo) (n : Note) (r : Result Pages WriteRefusal) →
      list_any (is_other_operation v o.op) os ≡ true → U t → U (cp.change_by t o f p n r)
  unfolding cp.change_by cp.change
  used_after_change t o f p n (Ok ps) e w = stands_after_say Used (cs.note t n) (outputs.Answer o.op answers.Written) (use_clear o answers.Written e)
      (stands_after_say Used t (outputs.Note n) refl w)
  used_after_change t o f p n (Err r) e w = stands_after_say Used t (outputs.Answer o.op answers.DirtyFull) refl w

  used_after_write : (t : Turn) (s : ClientSession) (o : Operation) (f : FileId) (p : PageNo) (bytes : List ℕ) → is_fine o ≡ true →
      list_any (is_other_operation v o.op) os ≡ true → U t → U (cp.write t s o f p bytes)
  unfolding cp.write cp.change_page
  used_after_write t s o f p bytes k e w =
      if_either U (cp.may_write t s f p) _ (cs.keep o t)
      (used_after_change t o f p (notes.Accepted f p bytes) (pages.write t.here.store.pages f.ino p bytes) e w)
      (used_after_keeping t o k w)

  used_after_fetch_at : (t : Turn) (f : FileId) (p : PageNo) (m : Option MappedBlock) → pages.mapping_of t.here.store.extents f.ino p ≡ m → U t →
      U (cp.fetch_at t f p m)
  unfolding cp.fetch_at cp.fetch_mapped cp.submit_read cp.submit_command
  used_after_fetch_at t f p None e w = w
  used_after_fetch_at t f p (Some m) e w =
      if_either U (pages.is_being_read t.here.store.commands f.ino p) t _ w
      (stands_after_say Used t (outputs.Submit t.next_command m.at (commands.Read m.at))
      (and_both (known m.at) true (placed_at t.here.store.extents f.ino p m w.placed e) refl) w)

  used_after_fetch : (t : Turn) (o : Operation) (f : FileId) (p : PageNo) → is_fine o ≡ true → U t → U (cp.fetch t o f p)
  unfolding cp.fetch
  used_after_fetch t o f p k w =
      let m = pages.mapping_of t.here.store.extents f.ino p in
      used_after_keeping (cp.fetch_at t f p m) o k (used_after_fetch_at t f p m refl w)

  used_after_patch_at : (t : Turn) (o : Operation) (f : FileId) (p : PageNo) (at : ℕ) (bytes : List ℕ) (old : Option (List ℕ)) → is_fine o ≡ true →
      list_any (is_other_operation v o.op) os ≡ true → U t →
      U (cp.patch_at t o f p at bytes old)
  unfolding cp.patch_at cp.patch_bytes cp.change_page
  used_after_patch_at t o f p at bytes None k e w = used_after_fetch t o f p k w
  used_after_patch_at t o f p at bytes (Some old) k e w =
      used_after_change t o f p (notes.Patched f p at bytes) (pages.write t.here.store.pages f.ino p (overlay at bytes old)) e w

  used_after_patch : (t : Turn) (s : ClientSession) (o : Operation) (f : FileId) (p : PageNo) (at : ℕ) (bytes : List ℕ) → is_fine o ≡ true →
      list_any (is_other_operation v o.op) os ≡ true → U t →
      U (cp.patch t s o f p at bytes)
  unfolding cp.patch
  used_after_patch t s o f p at bytes k e w =
      if_either U (cp.may_write t s f p) _ (cs.keep o t) (used_after_patch_at t o f p at bytes (pages.cached t.here.store.pages f.ino p) k e w)
      (used_after_keeping t o k w)

  used_after_known : (t : Turn) (o : Operation) (f : FileId) (p : PageNo) (x : KnownExtent) (m : Option MappedBlock) → is_fine o ≡ true →
      list_any (is_other_operation v o.op) os ≡ true → U t →
      U (cp.read_known t o f p x m)
  unfolding cp.read_known
  used_after_known t o f p x None k e w = stands_after_say Used t (outputs.Answer o.op (answers.Read (filled 0))) (use_clear o (answers.Read (filled 0)) e) w
  used_after_known t o f p x (Some m) k e w = used_after_fetch t o f p k w

  used_after_uncached : (t : Turn) (o : Operation) (f : FileId) (p : PageNo) (x : Option KnownExtent) → is_fine o ≡ true →
      list_any (is_other_operation v o.op) os ≡ true → U t → U (cp.read_uncached t o f p x)
  unfolding cp.read_uncached
  used_after_uncached t o f p None k e w = used_after_keeping t o k w
  used_after_uncached t o f p (Some x) k e w = used_after_known t o f p x x.mapping k e w

  used_after_read_at : (t : Turn) (o : Operation) (f : FileId) (p : PageNo) (bytes : Option (List ℕ)) → is_fine o ≡ true →
      list_any (is_other_operation v o.op) os ≡ true → U t → U (cp.read_at t o f p bytes)
  unfolding cp.read_at cp.read_cached
  used_after_read_at t o f p None k e w = used_after_uncached t o f p (pages.known_of t.here.store.extents f.ino p) k e w
  used_after_read_at t o f p (Some bytes) k e w = stands_after_say Used t (outputs.Answer o.op (answers.Read bytes)) (use_clear o (answers.Read bytes) e) w

  used_after_read : (t : Turn) (s : ClientSession) (o : Operation) (f : FileId) (p : PageNo) → is_fine o ≡ true →
      list_any (is_other_operation v o.op) os ≡ true → U t → U (cp.read t s o f p)
  unfolding cp.read
  used_after_read t s o f p k e w = if_either U (cp.holds s modes.S f) _ (cs.keep o t)
      (used_after_read_at t o f p (pages.cached t.here.store.pages f.ino p) k e w)
      (used_after_keeping t o k w)

  used_after_serve_open : (t : Turn) (s : ClientSession) (o : Operation) (a : Ask) → is_fine o ≡ true → list_any (is_other_operation v o.op) os ≡ true → U t →
      U (cp.serve_open t s o a)
  unfolding cp.serve_open
  used_after_serve_open t s o (asks.Write f p bytes) k e w = used_after_write t s o f p bytes k e w
  used_after_serve_open t s o (asks.Patch f p at bytes) k e w = used_after_patch t s o f p at bytes k e w
  used_after_serve_open t s o (asks.Read f p) k e w = used_after_read t s o f p k e w
  used_after_serve_open t s o a k e w = used_after_keeping t o k w

  used_after_serve : (all : List Operation) (t : Turn) (s : ClientSession) (o : Operation) → is_fine o ≡ true → list_any (is_other_operation v o.op) os ≡ true →
      U t → U (cp.serve all t s o)
  unfolding cp.serve
  used_after_serve all t s o k e w = if_either U (cs.is_open_file all t.here.server s (cs.file_of o.ask)) _ (cs.keep o t)
      (used_after_serve_open t s o o.ask k e w)
      (used_after_keeping t o k w)

  used_after_quiesce : (t : Turn) (o : Operation) → is_fine o ≡ true → U t → U (cp.quiesce t o)
  unfolding cp.quiesce
  used_after_quiesce t o k w = if_either U (cs.is_sent o) (cs.keep o t) _ (used_after_keeping t o k w)
      (stands_after_say Used t (outputs.Answer o.op answers.Quiesced) refl w)

  usable_after_operate_by : (all : List Operation) (t : Turn) (now : Stamp) (o : Operation) (x : Option ClientSession) → t.here.session ≡ x →
      cs.is_of t.here.server o ≡ true → is_fine o ≡ true → S t →
      S (cp.operate_by all t now o x)
  unfolding cp.operate_by cp.operate_under
  usable_after_operate_by all t now o None q i k w = usable_after_keeping t o k w
  usable_after_operate_by all t now o (Some s) q i k w =
      let u = used t s q w in
      usable (cp.operate_under all t s now o)
      (if_either U (cs.is_serving t.config s now) _ _ (used_after_serve all t s o k (own_fine t.here.server o u.cond i k) u) (used_after_quiesce t o k u))

  usable_after_sync : (t : Turn) (o : Operation) (f : FileId) → is_fine o ≡ true → S t → S (cp.sync t o f)
  unfolding cp.sync
  usable_after_sync t o f k w = if_either S (pages.is_hard t.here.store f.ino) _ (cs.keep o t)
      (stands_after_say Usable t (outputs.Answer o.op answers.Hard) refl w) (usable_after_keeping t o k w)

  usable_after_operate_on : (all : List Operation) (t : Turn) (now : Stamp) (o : Operation) (a : Ask) → cs.is_of t.here.server o ≡ true → is_fine o ≡ true →
      S t → S (cp.operate_on all t now o a)
  unfolding cp.operate_on
  usable_after_operate_on all t now o (asks.Sync f) i k w = usable_after_sync t o f k w
  usable_after_operate_on all t now o a i k w = usable_after_operate_by all t now o t.here.session refl i k w

  usable_after_operate : (all : List Operation) (t : Turn) (now : Stamp) (o : Operation) → is_fine o ≡ true → S t → S (cp.operate all t now o)
  unfolding cp.operate
  usable_after_operate all t now o k w = go (cs.is_of t.here.server o) refl
    where
      go : (b : Bool) → cs.is_of t.here.server o ≡ b → S (if b then cp.operate_on all t now o o.ask else cs.keep o t)
      go true e = usable_after_operate_on all t now o o.ask e k w
      go false e = usable_after_keeping t o k w

  usable_after_operate_each : (all : List Operation) (now : Stamp) (xs : List Operation) (t : Turn) → list_all is_fine xs ≡ true → S t →
      S (cp.operate_each all now xs t)
  unfolding cp.operate_each
  usable_after_operate_each all now [] t k w = w
  usable_after_operate_each all now (o ∷ xs) t k w =
      let p = and_true (is_fine o) (list_all is_fine xs) k in
      usable_after_operate_each all now xs (cp.operate all t now o) p.1 (usable_after_operate all t now o p.0 w)

  usable_after_operations : (now : Stamp) (t : Turn) → S t → S (cp.operations now t)
  unfolding cp.operations
  usable_after_operations now t w = usable_after_operate_each t.operations now t.operations (with_operations [] t) w.operations
      (record { placed = w.placed; operations = refl; out = w.out; cond = w.cond })

  -- Reductions.

  placed_from : (st : Store) (ino : ℕ) (p : PageNo) → list_all is_placed st.extents ≡ true → list_all is_placed (pages.forget_from st ino p).extents ≡ true
  unfolding pages.forget_from
  placed_from st ino p h = all_filter is_placed (λ e. not (pages.is_known_behind ino p e)) st.extents h

  placed_forgotten : (ino : ℕ) (to : Mode) (st : Store) → list_all is_placed st.extents ≡ true → list_all is_placed (cp.forgotten_at ino to st).extents ≡ true
  placed_forgotten ino modes.None st h = placed_from st ino _ h
  placed_forgotten ino modes.S st h = h
  placed_forgotten ino modes.X st h = h

  used_after_given : (t : Turn) (s : ClientSession) (ino : ℕ) (g : Option (GrantNo × Mode)) → U t → U (cp.reduce_given t s ino g)
  unfolding cp.reduce_given cp.reduce_to
  used_after_given t s ino None w = w
  used_after_given t s ino (Some g) w =
      stands_after_store Used (with_session (cp.released s ino g.0 g.1) t) (cp.forgotten_at ino g.1 t.here.store)
      (placed_forgotten ino g.1 t.here.store w.placed) w

  usable_after_reduce : (t : Turn) (ino : ℕ) (x : Option ClientSession) → t.here.session ≡ x → S t → S (cp.reduce t ino x)
  unfolding cp.reduce cp.reduce_idle cp.reduce_by
  usable_after_reduce t ino None e w = w
  usable_after_reduce t ino (Some s) e w =
      let r = locks.reduce s.locks ino in
      let u = used t s e w in
      if_either S (cp.may_reduce t s ino) (cp.reduce_given t (cs.with_cache r.locks s) ino r.given) t
      (usable (cp.reduce_given t (cs.with_cache r.locks s) ino r.given) (used_after_given t (cs.with_cache r.locks s) ino r.given u)) w

  usable_after_reduce_each : (inos : List ℕ) (t : Turn) → S t → S (cp.reduce_each inos t)
  unfolding cp.reduce_each
  usable_after_reduce_each [] t w = w
  usable_after_reduce_each (ino ∷ inos) t w = usable_after_reduce_each inos (cp.reduce t ino t.here.session) (usable_after_reduce t ino t.here.session refl w)

  usable_after_reductions : (t : Turn) → S t → S (cp.reductions t)
  unfolding cp.reductions
  usable_after_reductions t w = usable_after_reduce_each (cp.files_demanded t.here.session) t w

  -- Writes.

  used_after_out_at : (t : Turn) (d : DirtyPage) (m : Option MappedBlock) → pages.mapping_of t.here.store.extents d.ino d.page ≡ m → U t →
      U (cp.write_out_at t d m)
  unfolding cp.write_out_at cp.submit_write cp.submit_command
  used_after_out_at t d None e w = w
  used_after_out_at t d (Some m) e w =
      stands_after_say Used t
      (outputs.Submit t.next_command m.at (commands.Write m.at (record { file = cp.file t d.ino; page = d.page; birth = m.birth }) d.bytes))
      (and_both (known m.at) (not (same_server t.here.server v)) (placed_at t.here.store.extents d.ino d.page m w.placed e) (ap not w.cond)) w

  used_after_page_out : (t : Turn) (s : ClientSession) (now : Stamp) (tick : Bool) (d : Option DirtyPage) → U t → U (cp.write_page t s now tick d)
  unfolding cp.write_page cp.write_due cp.write_out
  used_after_page_out t s now tick None w = w
  used_after_page_out t s now tick (Some d) w =
      let m = pages.mapping_of t.here.store.extents d.ino d.page in
      if_either U (cp.is_writable t s now tick d) (cp.write_out_at t d m) t (used_after_out_at t d m refl w) w

  used_after_write_each : (s : ClientSession) (now : Stamp) (tick : Bool) (xs : List (ℕ × PageNo)) (t : Turn) → U t → U (cp.write_each s now tick xs t)
  unfolding cp.write_each
  used_after_write_each s now tick [] t w = w
  used_after_write_each s now tick (x ∷ xs) t w =
      let d = pages.dirty_of t.here.store.pages x.0 x.1 in
      used_after_write_each s now tick xs (cp.write_page t s now tick d) (used_after_page_out t s now tick d w)

  usable_after_writes_by : (t : Turn) (now : Stamp) (tick : Bool) (x : Option ClientSession) → t.here.session ≡ x → S t → S (cp.writes_by t now tick x)
  unfolding cp.writes_by
  usable_after_writes_by t now tick None e w = w
  usable_after_writes_by t now tick (Some s) e w =
      let places = pages.dirty_places t.here.store.pages in
      usable (cp.write_each s now tick places t) (used_after_write_each s now tick places t (used t s e w))

  usable_after_writes : (now : Stamp) (tick : Bool) (t : Turn) → S t → S (cp.writes now tick t)
  unfolding cp.writes
  usable_after_writes now tick t w = usable_after_writes_by t now tick t.here.session refl w

  -- Greeting.

  usable_after_greeting_by : (t : Turn) (now : Stamp) (tick : Bool) (x : Option ClientSession) → S t → S (cp.greeting_by t now tick x)
  unfolding cp.greeting_by cp.greet cp.hello
  usable_after_greeting_by t now tick None w = if_either S (cp.must_greet t now tick) _ t
      (stands_after_send Usable (cp.with_greeting now t) 0 0 now.0 bodies.Hello w) w
  usable_after_greeting_by t now tick (Some s) w = w

  usable_after_greeting : (now : Stamp) (tick : Bool) (t : Turn) → S t → S (cp.greeting now tick t)
  unfolding cp.greeting
  usable_after_greeting now tick t w = usable_after_greeting_by t now tick t.here.session w

  -- Requests.

  used_after_ask : (t : Turn) (s : ClientSession) (now : Stamp) (b : Body) (cutting : Option ℕ) → U t → U (cp.ask t s now b cutting)
  unfolding cp.ask
  used_after_ask t s now b cutting w = stands_after_send Used (with_session (cp.asking_session s now b cutting) t) s.epoch.0 s.requests.next now.0 b w

  used_after_alive : (t : Turn) (s : ClientSession) (now : Stamp) → U t → U (cp.keep_alive t s now)
  unfolding cp.keep_alive
  used_after_alive t s now w = if_either U (lease.is_renewing (lease.phase_of t.config s.lease now)) _ t (used_after_ask t s now bodies.KeepAlive None w) w

  abbrev FineAsking : Option cp.Asking → Type 0
  FineAsking None = ⊤
  FineAsking (Some a) = list_all is_fine a.operations ≡ true

  sent_fine : (b : Bool) (o : Operation) → is_fine o ≡ true → is_fine (cp.sent_if b o) ≡ true
  sent_fine true o f = f
  sent_fine false o f = f

  or_fine : (o : Operation) (xs : List Operation) (later : Option cp.Asking) (x : Option cp.Wanted) → is_fine o ≡ true → list_all is_fine xs ≡ true →
      FineAsking later → FineAsking (cp.asks_or o xs later x)
  unfolding cp.asks_or
  or_fine o xs None None f h a = tt
  or_fine o xs (Some b) None f h a = and_both (is_fine o) (list_all is_fine b.operations) f a
  or_fine o xs later (Some x) f h a = and_both (is_fine (cp.sent_if x.own o)) (list_all is_fine xs) (sent_fine x.own o f) h

  first_fine : (t : Turn) (s : ClientSession) (now : Stamp) (xs : List Operation) → list_all is_fine xs ≡ true → FineAsking (cp.first_asking t s now xs)
  unfolding cp.first_asking
  first_fine t s now [] h = tt
  first_fine t s now (o ∷ xs) h =
      let p = and_true (is_fine o) (list_all is_fine xs) h in
      or_fine o xs (cp.first_asking t s now xs) (cp.asked_by t s now o) p.0 p.1 (first_fine t s now xs p.1)

  placed_cut : (x : Option (ℕ × PageNo)) (st : Store) → list_all is_placed st.extents ≡ true → list_all is_placed (cp.cut_store x st).extents ≡ true
  placed_cut None st h = h
  placed_cut (Some x) st h = placed_from st x.0 x.1 h

  used_after_ask_for : (t : Turn) (s : ClientSession) (now : Stamp) (a : Option cp.Asking) → FineAsking a → U t → U (cp.ask_for_or t s now a)
  unfolding cp.ask_for_or cp.ask_for
  used_after_ask_for t s now None f w = used_after_alive t s now w
  used_after_ask_for t s now (Some a) f w =
      used_after_ask (with_store (cp.cut_store a.wanted.cut t.here.store) (with_operations a.operations t)) s now a.wanted.body (cp.file_cut a.wanted.cut)
      (record { placed = placed_cut a.wanted.cut t.here.store w.placed; operations = f; out = w.out; cond = w.cond })

  used_after_ask_next : (t : Turn) (s : ClientSession) (now : Stamp) → U t → U (cp.ask_next t s now)
  unfolding cp.ask_next
  used_after_ask_next t s now w =
      if_either U (cs.is_serving t.config s now) _ _
      (used_after_ask_for t s now (cp.first_asking t s now t.operations) (first_fine t s now t.operations w.operations) w) (used_after_alive t s now w)

  used_after_ask_by : (t : Turn) (s : ClientSession) (now : Stamp) (rs : List Release) → U t → U (cp.ask_by t s now rs)
  unfolding cp.ask_by cp.ask_release
  used_after_ask_by t s now [] w = used_after_ask_next t s now w
  used_after_ask_by t s now (r ∷ rs) w = used_after_ask t (record s { releases = rs }) now (bodies.Released r.ino r.g r.to) None w

  used_after_at : (t : Turn) (s : ClientSession) (now : Stamp) (tick : Bool) (q : Option Request) → U t → U (cp.requests_at t s now tick q)
  unfolding cp.requests_at cp.ask_new cp.reassert cp.repeat cp.ask_again
  used_after_at t s now tick None w = if_either U s.due _ _ (used_after_ask t s now (bodies.Reassert (locks.all_locks s.locks)) None w)
      (used_after_ask_by t s now s.releases w)
  used_after_at t s now tick (Some q) w = if_either U (cp.is_old t.config now tick q) _ t
      (stands_after_send Used (with_session (cp.again_session s now q) t) s.epoch.0 q.number now.0 q.body w) w

  usable_after_requests_by : (t : Turn) (now : Stamp) (tick : Bool) (x : Option ClientSession) → t.here.session ≡ x → S t → S (cp.requests_by t now tick x)
  unfolding cp.requests_by cp.requests_under
  usable_after_requests_by t now tick None e w = w
  usable_after_requests_by t now tick (Some s) e w =
      if_either S s.lease.condemned t _ w (usable (cp.requests_at t s now tick s.requests.asked) (used_after_at t s now tick s.requests.asked (used t s e w)))

  usable_after_requests : (now : Stamp) (tick : Bool) (t : Turn) → S t → S (cp.requests now tick t)
  unfolding cp.requests
  usable_after_requests now tick t w = usable_after_requests_by t now tick t.here.session refl w

  pub usable_after_passes : (now : Stamp) (tick : Bool) (t : Turn) → S t → S (cp.passes now tick t)
  unfolding cp.passes
  usable_after_passes now tick t w = usable_after_requests now tick _
      (usable_after_greeting now tick _ (usable_after_writes now tick _ (usable_after_reductions _ (usable_after_operations now t w))))
