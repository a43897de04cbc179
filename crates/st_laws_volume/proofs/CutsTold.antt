-- A request that cuts, as the volume takes it, is one for which the server that serves it notes a cut.
use Rattle.st_lemmas.proofs.Words
use Words.{◌≡◌, ℕ, zero, suc, Bool, true, false, not, ◌&&◌, ◌||◌, ◌==◌, List, [], ◌∷◌, ◌++◌, Option, Some, None, Ok, Err, refl, sym, ap, ◌∙◌, subst, if◌then◌else◌, Result}
use Words.{eqb-true, is_some, list_any, ClientId, FileId, GrantNo, Life, Mode, PageNo, ServerId, Stamp, Body, Header, Message, NameAsk, NameOp, Note, Output, EntryRefusal}
use Words.{NameRow, Observation}
use Words.asks
use Words.bodies
use Words.modes
use Words.notes
use Words.ops
use Words.outputs
use Words.seen
use Words.Authority as authority
use Words.Events as ev
use Words.Events.{WorldTurn}
use Words.Keys.{page_no}
use Words.Names as names
use Words.Names.{Names}
use Words.Server as sv
use Words.Server.{ServerNode, ServerTurn}
use Words.Tables.{and_true}
use Words.Tests.{any_with_last}
use Rattle.st_base.specs.declared.names.NameAsk.TheVariants as asked
use Rattle.st_rules.specs.declared.input.ServerInput.TheVariants.{Control}
use Rattle.st_promises.specs.Acknowledgements.{is_cut_line}
use Rattle.st_laws_volume.specs.TreeNames.{IsSound, as_changed, as_found, as_listed, tree_of}
use Rattle.st_laws_volume.specs.Witness.{does, is_done_as, is_fresh, is_in_turn, is_name_for, is_request_for, same_text, serves, turn_of}
use Rattle.st_laws_volume.proofs.CutNotes.{IsPlain, cut_plain, name_plain}
use Rattle.st_laws_volume.proofs.TreeAnswers.{does_the_same}
use Rattle.st_laws_volume.proofs.TreeServers.{text_is}
use Rattle.st_laws_volume.proofs.TreeTurns.{free_is, fresh_is, thefts_stable}
use Rattle.st_volume.specs.Trees as trees
use Rattle.st_volume.specs.Trees.{Made}

-- a cut is noted
abbrev notes_cut : Output → Bool
notes_cut (outputs.Note (notes.CutDone f p)) = true
notes_cut o = false

abbrev pub Cut : ServerTurn → Type 0
Cut t = list_any notes_cut t.out ≡ true

any_left : {A : Type 0} (test : A → Bool) (xs ys : List A) → list_any test xs ≡ true → list_any test (xs ++ ys) ≡ true
any_left test [] ys h = cc
any_left test (x ∷ xs) ys h = go (test x) h (any_left test xs ys)
  where
    go : (b : Bool) → (b || list_any test xs) ≡ true → (list_any test xs ≡ true → list_any test (xs ++ ys) ≡ true) → (b || list_any test (xs ++ ys)) ≡ true
    go true h k = refl
    go false h k = k h

-- What follows the rule leaves it noted.
granted : (xs : List (ClientId × Life × ℕ × GrantNo × Mode)) (t : ServerTurn) → Cut t → Cut (sv.tell_granted xs t)
unfolding sv.tell_granted sv.tell
granted [] t h = h
granted (x ∷ xs) t h = granted xs (sv.tell t x.0 x.1 (bodies.Granted x.2 x.3 x.4)) (any_left notes_cut t.out _ h)

demanded : (xs : List (ClientId × Life × ℕ × GrantNo × Mode)) (t : ServerTurn) → Cut t → Cut (sv.tell_demanded xs t)
unfolding sv.tell_demanded sv.tell
demanded [] t h = h
demanded (x ∷ xs) t h = demanded xs (sv.tell t x.0 x.1 (bodies.Demand x.2 x.3 x.4)) (any_left notes_cut t.out _ h)

granting : (u : ServerTurn) (now : Stamp) → Cut u → Cut (sv.granting u now)
unfolding sv.granting sv.grant_waiting sv.grant_by
granting u now h = go (sv.in_grace u now)
  where
    go : (b : Bool) → Cut (if b then u else sv.grant_waiting u)
    go true = h
    go false = granted _ _ h

kept : (h : Header) (r : sv.Replied) → Cut r.turn → Cut (sv.serve h r)
unfolding sv.serve sv.keep sv.keep_and_reply sv.reply
kept h r k = go r.reply
  where
    go : (o : Option Body) → Cut (sv.keep h r.turn o)
    go None = k
    go (Some b) = any_left notes_cut r.turn.out _ k

-- a request that is served goes by its rule
rule_is : (t : ServerTurn) (now : Stamp) (h : Header) (b : Body) → IsPlain b → serves t h ≡ true → sv.receive t now h b ≡ sv.serve h (sv.rule t now h b)
unfolding sv.receive sv.receive_from sv.by_suspicion sv.of_epoch sv.request_by
rule_is t now h b k q =
    let a = and_true (sv.is_for t.state h && not (is_some (authority.started t.state.authority (sv.sender h)))) (is_in_turn t h) q in
    let c = and_true (sv.is_for t.state h) (not (is_some (authority.started t.state.authority (sv.sender h)))) a.0 in
    let d = and_true (h.epoch == t.state.stable.epoch.0) (is_fresh (sv.take t h)) a.1 in
    ap (λ x. if x then sv.receive_from t now h b else t) c.0
    ∙ (ap (λ o. sv.by_suspicion t now h b o) (free_is (authority.started t.state.authority (sv.sender h)) c.1)
    ∙ (k.body t now h
    ∙ (ap (λ x. if x then sv.request t now h b else sv.refuse_epoch t h) d.0
    ∙ (k.request t now h ∙ ap (λ y. sv.request_by t now h b y) (fresh_is (sv.take t h) d.1)))))

-- A cut that is acknowledged is noted.
cut_done : (t : ServerTurn) (now : Stamp) (h : Header) (ino : ℕ) (g : GrantNo) (from : PageNo) →
    is_done_as (bodies.Cut ino g from) (sv.rule t now h (bodies.Cut ino g from)).reply ≡ true → Cut (sv.rule t now h (bodies.Cut ino g from)).turn
unfolding sv.rule sv.cut sv.cut_held sv.cut_from sv.cut_pages sv.no_file sv.not_holder
cut_done t now h ino g from q = file (sv.is_file t ino) q
  where
    held : (b : Bool) → is_done_as (bodies.Cut ino g from) (if b then sv.cut_from t ino from else sv.not_holder t ino g).reply ≡ true →
        Cut (if b then sv.cut_from t ino from else sv.not_holder t ino g).turn
    held true q = any_with_last notes_cut t.out (outputs.Note (notes.CutDone (sv.file t ino) from)) refl
    held false q = cc

    file : (b : Bool) → is_done_as (bodies.Cut ino g from) (if b then sv.cut_held t h ino g from else sv.no_file t ino).reply ≡ true →
        Cut (if b then sv.cut_held t h ino g from else sv.no_file t ino).turn
    file true q = held (sv.holds t h ino g modes.X) q
    file false q = cc

-- A removal that cuts, as trees do, is noted.
abbrev pub cut_by : Option Made → Option ℕ
cut_by None = None
cut_by (Some m) = m.1.1

module _ (t : ServerTurn) (s : IsSound t.state.stable.names) (h : Header) (i : ℕ) where
  abbrev n : Names
  n = t.state.stable.names

  abbrev Cuts : Option Made → Type 0
  Cuts o = cut_by o ≡ Some i

  no_found : (r : Result ℕ EntryRefusal) → Cuts (as_found n r) → ⊥
  no_found (Ok ino) q = cc
  no_found (Err r) q = cc

  no_changed : (r : Result names.Changed EntryRefusal) → Cuts (as_changed n None r) → ⊥
  no_changed (Ok d) q = cc
  no_changed (Err r) q = cc

  no_listed : (r : Result (List NameRow) EntryRefusal) → Cuts (as_listed n r) → ⊥
  no_listed (Ok rows) q = cc
  no_listed (Err r) q = cc

  refused : (code : ℕ) → Cuts (trees.refuses (tree_of n) code) → ⊥
  refused code q = cc

  nothing : Cuts None → ⊥
  nothing q = cc

  by : (ino : ℕ) (r : Result names.Changed EntryRefusal) → Cuts (as_changed n (Some ino) r) → Cut (sv.remove_by t r).turn
  unfolding sv.remove_by sv.cut_whole sv.cut_pages
  by ino (Ok d) q = any_with_last notes_cut t.out (outputs.Note (notes.CutDone (sv.file t d.ino) (page_no 0))) refl
  by ino (Err r) q = absurd (refused (names.code_of r) q)

  module _ (op : NameOp) (dir : ℕ) (name : List ℕ) (ino : ℕ) (g : GrantNo) (cuts : Cuts (trees.does (tree_of n) (asked.Remove dir name ino))) where
    removing : (r : Result ℕ EntryRefusal) → names.lookup n dir name ≡ r → is_done_as (bodies.Name op) (sv.remove_found t h dir name g r).reply ≡ true →
        Cut (sv.remove_found t h dir name g r).turn
    unfolding sv.remove_found sv.remove_ino sv.remove_file sv.not_holder
    removing (Err r) q d = absurd (refused (names.code_of r) (subst Cuts ((does_the_same n s).remove_nothing dir name ino r q) cuts))
    removing (Ok there) q d = kind (sv.is_file t there) refl d
      where
        file : (b : Bool) → (there == ino) ≡ b → names.is_file n there ≡ true → Cut (sv.remove_by t (names.remove n dir name)).turn
        file true e f =
            let same = eqb-true there ino e in
            by ino (names.remove n dir name)
            (subst Cuts ((does_the_same n s).remove_file dir name ino (q ∙ ap (λ j. Ok j) same) (ap (names.is_file n) (sym same) ∙ f)) cuts)
        file false e f = absurd (nothing (subst Cuts ((does_the_same n s).remove_other dir name ino there q f e) cuts))

        held : names.is_file n there ≡ true → (b : Bool) →
            is_done_as (bodies.Name op) (if b then sv.remove_by t (names.remove n dir name) else sv.not_holder t there g).reply ≡ true →
            Cut (if b then sv.remove_by t (names.remove n dir name) else sv.not_holder t there g).turn
        held f true d = file (there == ino) refl f
        held f false d = cc

        dir_none : (j : ℕ) → ino ≡ j → names.is_file n there ≡ false → ⊥
        dir_none zero e f =
            no_changed (names.remove n dir name)
            (subst Cuts ((does_the_same n s).remove_directory dir name there q f) (subst (λ j. Cuts (trees.does (tree_of n) (asked.Remove dir name j))) e cuts))
        dir_none (suc j) e f =
            refused 4
            (subst Cuts ((does_the_same n s).remove_refused dir name j there q f) (subst (λ j. Cuts (trees.does (tree_of n) (asked.Remove dir name j))) e cuts))

        kind : (b : Bool) → sv.is_file t there ≡ b →
            is_done_as (bodies.Name op) (if b then sv.remove_file t h dir name g there else sv.remove_dir t dir name g).reply ≡ true →
            Cut (if b then sv.remove_file t h dir name g there else sv.remove_dir t dir name g).turn
        kind true f d = held f (sv.holds t h there g modes.X) d
        kind false f d = absurd (dir_none ino refl f)

  named : (ask : NameAsk) (op : NameOp) → is_name_for ask op ≡ true → Cuts (trees.does (tree_of n) ask) →
      is_done_as (bodies.Name op) (sv.name t h op).reply ≡ true → Cut (sv.name t h op).turn
  unfolding sv.name sv.remove
  named (asked.Lookup dir x) op q c d = absurd (no_found (names.lookup n dir x) (subst Cuts ((does_the_same n s).lookup dir x) c))
  named (asked.Create dir x) op q c d = absurd (no_changed (names.create n dir x) (subst Cuts ((does_the_same n s).create dir x) c))
  named (asked.Mkdir dir x) op q c d = absurd (no_changed (names.mkdir n dir x) (subst Cuts ((does_the_same n s).mkdir dir x) c))
  named (asked.Rename dir x dir2 x2) op q c d =
      absurd (no_changed (names.rename n dir x dir2 x2) (subst Cuts ((does_the_same n s).rename dir x dir2 x2) c))
  named (asked.List dir after) op q c d = absurd (no_listed (names.list n dir after) (subst Cuts ((does_the_same n s).list dir after) c))
  named (asked.Remove dir x ino) (ops.Remove e y g) q c d =
      let b = and_true (same_text dir x e y) (if ino == 0 then g.0 == 0 else not (g.0 == 0)) q in
      let z = text_is dir e x y b.0 in
      removing (ops.Remove e y g) e y ino g
      (subst (λ k. Cuts (trees.does (tree_of n) (asked.Remove k y ino))) z.0 (subst (λ k. Cuts (trees.does (tree_of n) (asked.Remove dir k ino))) z.1 c))
      (names.lookup n e y) refl d
  named (asked.Remove dir x ino) op q c d = cc

-- The step of a server that does what is requested.
module _ (node : ServerNode) (now : Stamp) (m : Message) (d : does (turn_of node now) now m ≡ true) where
  abbrev T : ServerTurn
  T = turn_of node now

  abbrev pub Notes : Type 0
  Notes = Cut (sv.server_step node.state now (Control m))

  served : (b : Body) → IsPlain b → m.body ≡ b → Cut (sv.rule T now m.header b).turn → Notes
  unfolding sv.server_step sv.take_input sv.suspecting_on sv.demanding sv.demand_by
  served b k is c =
      let a = and_true (serves T m.header) (is_done_as m.body (sv.rule T now m.header m.body).reply) d in
      demanded _ _
      (granting (sv.receive T now m.header m.body) now
      (subst (λ x. Cut (sv.receive T now m.header x)) (sym is)
      (subst Cut (sym (rule_is T now m.header b k a.0)) (kept m.header (sv.rule T now m.header b) c))))

  done : (b : Body) → m.body ≡ b → is_done_as b (sv.rule T now m.header b).reply ≡ true
  done b is =
      subst (λ x. is_done_as x (sv.rule T now m.header x).reply ≡ true) is
      (and_true (serves T m.header) (is_done_as m.body (sv.rule T now m.header m.body).reply) d).1

  pub cut_notes : (s : ServerId) (f : FileId) (p : PageNo) → is_request_for s m.body (asks.Cut f p) ≡ true → Notes
  cut_notes s f p q = go m.body refl q
    where
      go : (b : Body) → m.body ≡ b → is_request_for s b (asks.Cut f p) ≡ true → Notes
      go (bodies.Cut ino g from) is q =
          served (bodies.Cut ino g from) (cut_plain ino g from) is (cut_done T now m.header ino g from (done (bodies.Cut ino g from) is))
      go b is q = cc

  pub name_notes : IsSound node.state.stable.names → (s r : ServerId) (ask : NameAsk) (i : ℕ) → is_request_for s m.body (asks.Name r ask) ≡ true →
      cut_by (trees.does (tree_of node.state.stable.names) ask) ≡ Some i → Notes
  unfolding sv.rule
  name_notes sound s r ask i q c = go m.body refl q
    where
      same : T.state.stable.names ≡ node.state.stable.names
      same = ap (λ (y : sv.Stable). y.names) (thefts_stable node.state now)

      go : (b : Body) → m.body ≡ b → is_request_for s b (asks.Name r ask) ≡ true → Notes
      go (bodies.Name op) is q =
          served (bodies.Name op) (name_plain op) is
          (named T (subst IsSound (sym same) sound) m.header i ask op (and_true (r.0 == s.0) (is_name_for ask op) q).1
          (subst (λ y. cut_by (trees.does (tree_of y) ask) ≡ Some i) (sym same) c) (done (bodies.Name op) is))
      go b is q = cc

-- What is noted is observed.
abbrev pub Seen : List Observation → Type 0
Seen os = list_any is_cut_line os ≡ true

module _ (s : ServerId) where
  output_seen : (o : Output) (sc : WorldTurn) → Seen sc.seen → Seen (ev.server_says sc s o).seen
  unfolding ev.server_says ev.server_notes ev.cuts ev.sends
  output_seen (outputs.Send m) sc h = any_left is_cut_line sc.seen _ h
  output_seen (outputs.Note x) sc h = note x
    where
      note : (x : Note) → Seen (ev.server_notes sc s x).seen
      note (notes.Suspected d start) = any_left is_cut_line sc.seen _ h
      note (notes.Stolen d life) = any_left is_cut_line sc.seen _ h
      note (notes.CutDone g q) = any_left is_cut_line sc.seen _ h
      note x = h
  output_seen o sc h = h

  outputs_seen : (os : List Output) (sc : WorldTurn) → Seen sc.seen → Seen (ev.server_says_all s os sc).seen
  unfolding ev.server_says_all
  outputs_seen [] sc h = h
  outputs_seen (o ∷ os) sc h = outputs_seen os (ev.server_says sc s o) (output_seen o sc h)

  cut_seen : (o : Output) (sc : WorldTurn) → notes_cut o ≡ true → Seen (ev.server_says sc s o).seen
  unfolding ev.server_says ev.server_notes ev.cuts
  cut_seen (outputs.Note (notes.CutDone f p)) sc q = any_with_last is_cut_line sc.seen _ refl
  cut_seen o sc q = cc

  pub all_seen : (os : List Output) (sc : WorldTurn) → list_any notes_cut os ≡ true → Seen (ev.server_says_all s os sc).seen
  unfolding ev.server_says_all
  all_seen [] sc q = cc
  all_seen (o ∷ os) sc q = go (notes_cut o) refl q (all_seen os (ev.server_says sc s o))
    where
      go : (b : Bool) → notes_cut o ≡ b → (b || list_any notes_cut os) ≡ true →
          (list_any notes_cut os ≡ true → Seen (ev.server_says_all s os (ev.server_says sc s o)).seen) →
          Seen (ev.server_says_all s os (ev.server_says sc s o)).seen
      go true e q k = outputs_seen os (ev.server_says sc s o) (cut_seen o sc e)
      go false e q k = k q
