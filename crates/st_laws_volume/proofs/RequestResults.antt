-- A request that a server serves gives the ask that led to it the result that the reply tells.
use Rattle.std.proofs.Common.{◌≡◌, ◌⊎◌, ℕ, arith, ◌+◌, Bool, true, false, not, ◌&&◌, ◌||◌, ◌==◌, List, [], ◌∷◌, ◌++◌, length, map, Option, Some, None, refl, sym, ap, ◌∙◌, subst, if◌then◌else◌}
use Rattle.std.specs.Prelude.{bytes_eq, find, option_and_then, option_map, zip}
use Rattle.std.specs.List.{list_all}
use Rattle.std.proofs.lemmas.Bool.{eq-eqb, eqb-true}
use Rattle.std.proofs.lemmas.Slice.Eq.{bytes_eq-Decides}
use Rattle.st_base.specs.declared.ids.ClientId.{ClientId}
use Rattle.st_base.specs.declared.ids.GrantNo.{GrantNo}
use Rattle.st_base.specs.declared.ids.PageNo.{PageNo}
use Rattle.st_base.specs.declared.ids.ServerId.{ServerId}
use Rattle.st_base.specs.declared.ids.Stamp.{Stamp}
use Rattle.st_base.specs.declared.names.NameAsk.{NameAsk}
use Rattle.st_base.specs.declared.names.NameRow.{NameRow}
use Rattle.st_messages.specs.declared.answer.AppAnswer.{AppAnswer}
use Rattle.st_messages.specs.declared.answer.AppAnswer.TheVariants as answers
use Rattle.st_messages.specs.declared.ask.Ask.{Ask}
use Rattle.st_messages.specs.declared.ask.Ask.TheVariants as asks
use Rattle.st_messages.specs.declared.message.Body.{Body}
use Rattle.st_messages.specs.declared.message.Body.TheVariants as bodies
use Rattle.st_messages.specs.declared.message.Message.{Message}
use Rattle.st_messages.specs.declared.message.NameOp.{NameOp}
use Rattle.st_messages.specs.declared.message.NameReply.{NameReply}
use Rattle.st_messages.specs.declared.message.NameReply.TheVariants as replies
use Rattle.st_rules.specs.ClientReplies.{name_answer}
use Rattle.st_rules.specs.Names.{Names}
use Rattle.st_rules.specs.Server as sv
use Rattle.st_rules.specs.Server.{ServerNode, ServerTurn, Stable, sender}
use Rattle.st_rules.specs.World.{World, node_of}
use Rattle.st_lemmas.specs.Lists.{Has}
use Rattle.st_lemmas.proofs.Lookups.{or_left, or_right, some_is}
use Rattle.st_lemmas.proofs.Numbers.{numbered_has}
use Rattle.st_lemmas.proofs.Tables.{all_pass, and_both, and_true, found_at, has_map}
use Rattle.st_lemmas.proofs.Truth.{client_is, none_not_some}
use Rattle.st_laws_volume.specs.Options.{OnSome}
use Rattle.st_laws_volume.specs.TreeNames.{IsSound, tree_of}
use Rattle.st_laws_volume.specs.Trees.{HasTreesOf, tree_at}
use Rattle.st_laws_volume.specs.Witness.{Behind, above_all, is_behind, is_done_as, is_name_for, is_request_for, is_there, now_at, op_of, takes_op, turn_of}
use Rattle.st_laws_volume.proofs.AskSteps.{Leaves, effect_keeps}
use Rattle.st_laws_volume.proofs.ChangeLines.{on_both}
use Rattle.st_laws_volume.proofs.Options.{on_all, on_else, on_if, on_map, on_more, on_then}
use Rattle.st_laws_volume.proofs.ResultsStay.{AllKeep, keeps}
use Rattle.st_laws_volume.proofs.TreeServers.{ByReply, MadeOr, named_by, named_for}
use Rattle.st_laws_volume.proofs.TreeSteps.{none_above}
use Rattle.st_laws_volume.proofs.TreeTurns.{thefts_stable}
use Rattle.st_laws_volume.proofs.TreeWorld.{AllSound, tree_there}
use Rattle.st_volume.specs.declared.step.VolumeStep.TheVariants as kinds
use Rattle.st_volume.specs.Pages.{is_any}
use Rattle.st_volume.specs.Trees as trees
use Rattle.st_volume.specs.Trees.{Made}
use Rattle.st_volume.specs.Volume as volume
use Rattle.st_volume.specs.Volume.{Pending, Volume, acts, are_rows, cuts, cuts_removed, done, effect, is_ask, is_of_client, is_result, is_row, made, notice, resulting, run, takes, with_tree}

-- What a reply tells of what was asked.
abbrev pub told : Body → AppAnswer
told (bodies.Named reply) = name_answer reply
told b = answers.Cut

abbrev pub tells : Body → AppAnswer → Bool
tells reply = λ result. is_result result (told reply)

row_self : (a : NameRow) → is_row a a ≡ true
row_self a =
    and_both ((a.ino == a.ino) && bytes_eq a.name a.name) ((a.directory && a.directory) || not (a.directory || a.directory))
    (and_both (a.ino == a.ino) (bytes_eq a.name a.name) (eq-eqb a.ino a.ino refl) ((bytes_eq-Decides a.name a.name).1 refl)) (go a.directory)
  where
    go : (b : Bool) → ((b && b) || not (b || b)) ≡ true
    go true = refl
    go false = refl

rows_self : (rows : List NameRow) → are_rows rows rows ≡ true
rows_self rows = and_both (length rows == length rows) _ (eq-eqb (length rows) (length rows) refl) (go rows)
  where
    go : (xs : List NameRow) → list_all (λ x. is_row x.0 x.1) (zip xs xs) ≡ true
    go [] = refl
    go (x ∷ xs) = and_both (is_row x x) (list_all (λ x. is_row x.0 x.1) (zip xs xs)) (row_self x) (go xs)

reply_self : (r : NameReply) → is_result (name_answer r) (name_answer r) ≡ true
reply_self (replies.Ino ino) = eq-eqb ino ino refl
reply_self (replies.Listed rows) = rows_self rows
reply_self (replies.Refused code) = eq-eqb code code refl

cut_told : (ino : ℕ) (g : GrantNo) (from : PageNo) (reply : Body) → is_done_as (bodies.Cut ino g from) (Some reply) ≡ true → told reply ≡ answers.Cut
cut_told ino g from bodies.Ack q = refl
cut_told ino g from b q = cc

module _ (t : World) (sound : AllSound t) (bs : List Behind) (v : Volume) (agree : HasTreesOf t v) (s : ServerId) (m : Message) (node : ServerNode)
    (at : node_of t s ≡ Some node) (reply : Body) (finished : is_done_as m.body (Some reply) ≡ true)
    (replied : (sv.rule (turn_of node (now_at t s)) (now_at t s) m.header m.body).reply ≡ Some reply) where
  abbrev Now : Stamp
  Now = now_at t s

  abbrev T : ServerTurn
  T = turn_of node Now

  abbrev c : ClientId
  c = sender m.header

  abbrev P : Volume × AppAnswer → Type 0
  P y = tells reply y.1 ≡ true

  -- a cut
  cut_so : (ino : ℕ) (g : GrantNo) (from : PageNo) → m.body ≡ bodies.Cut ino g from → (d : ClientId) (a : Ask) →
      is_request_for s (bodies.Cut ino g from) a ≡ true →
      OnSome P (effect v d a)
  cut_so ino g from is d (asks.Cut f p) q =
      on_map P (λ w. (w, answers.Cut)) (cuts v d f p)
      (on_all (λ w. tells reply answers.Cut ≡ true)
      (λ w. ap (is_result answers.Cut) (cut_told ino g from reply (subst (λ b. is_done_as b (Some reply) ≡ true) is finished))) (cuts v d f p))
  cut_so ino g from is d (asks.Write f p bytes) q = cc q
  cut_so ino g from is d (asks.Patch f p x bytes) q = cc q
  cut_so ino g from is d (asks.Read f p) q = cc
  cut_so ino g from is d (asks.Sync f) q = cc
  cut_so ino g from is d (asks.Name r ask) q = cc q

  -- an ask for a name
  module _ (op : NameOp) (is : m.body ≡ bodies.Name op) where
    its_names : T.state.stable.names ≡ node.state.stable.names
    its_names = ap (λ (y : Stable). y.names) (thefts_stable node.state Now)

    its_sound : IsSound T.state.stable.names
    its_sound = subst IsSound (sym its_names) (sound node (numbered_has t.servers s.0 node at))

    said : (r : NameReply) × (Some reply ≡ Some (bodies.Named r))
    said = named_by op (Some reply) (subst (λ b. is_done_as b (Some reply) ≡ true) is finished)

    by_rule : (sv.name T m.header op).reply ≡ Some (bodies.Named said.0)
    unfolding sv.rule
    by_rule = subst (λ b. (sv.rule T Now m.header b).reply ≡ Some reply) is replied ∙ said.1

    outcome : (ask : NameAsk) → is_name_for ask op ≡ true →
        MadeOr (trees.does (tree_of node.state.stable.names) ask) (tree_of (sv.name T m.header op).turn.state.stable.names) (name_answer said.0)
    outcome ask q =
        subst (λ n. MadeOr (trees.does (tree_of n) ask) (tree_of (sv.name T m.header op).turn.state.stable.names) (name_answer said.0)) its_names
        (subst (ByReply T.state.stable.names ask (sv.name T m.header op).turn.state.stable.names) by_rule (named_for T its_sound m.header ask op q))

    told_so : tells reply (name_answer said.0) ≡ true
    told_so = ap (λ b. is_result (name_answer said.0) (told b)) (some_is said.1) ∙ reply_self said.0

    made_so : (d : ClientId) (r : ServerId) (x : Made) → x.1.0 ≡ name_answer said.0 → OnSome P (made v d r x)
    made_so d r (t2, (answer, removed)) e =
        on_map P (λ w. (w, answer)) (option_map (with_tree r t2) (cuts_removed v d r removed))
        (on_all (λ w. tells reply answer ≡ true) (λ w. ap (tells reply) e ∙ told_so) (option_map (with_tree r t2) (cuts_removed v d r removed)))

    name_so : (d : ClientId) (a : Ask) → is_request_for s (bodies.Name op) a ≡ true → OnSome P (effect v d a)
    name_so d (asks.Name r ask) q =
        let b = and_true (r.0 == s.0) (is_name_for ask op) q in
        subst (λ o. OnSome P (option_and_then (made v d r) (option_and_then (λ x. trees.does x ask) o)))
        (sym (ap (volume.numbered v.trees) (eqb-true r.0 s.0 b.0) ∙ tree_there t sound bs v agree s node at))
        (made_or (trees.does (tree_at node) ask) (outcome ask b.1))
      where
        made_or : (o : Option Made) → MadeOr o (tree_of (sv.name T m.header op).turn.state.stable.names) (name_answer said.0) →
            OnSome P (option_and_then (made v d r) o)
        made_or None h = tt
        made_or (Some x) h = made_so d r x h.1
    name_so d (asks.Write f p bytes) q = cc q
    name_so d (asks.Patch f p x bytes) q = cc q
    name_so d (asks.Read f p) q = cc
    name_so d (asks.Sync f) q = cc
    name_so d (asks.Cut f p) q = cc q

  result_so : (d : ClientId) (a : Ask) → is_request_for s m.body a ≡ true → OnSome P (effect v d a)
  result_so d a q = go m.body refl (subst (λ b. is_request_for s b a ≡ true) refl q)
    where
      go : (b : Body) → m.body ≡ b → is_request_for s b a ≡ true → OnSome P (effect v d a)
      go (bodies.Cut ino g from) e k = cut_so ino g from e d a k
      go (bodies.Name op) e k = name_so op e d a k
      go b e k = cc k

  -- Its effect.
  module _ (op : ℕ) where
    abbrev Keep : Volume → Type 0
    Keep u = AllKeep c op (tells reply) u

    result_kept : (a : Pending) → is_ask c op a ≡ true → (y : Volume × AppAnswer) → Leaves v y → P y → Keep (notice (done a y))
    result_kept a i (u, answer) k so =
        all_pass (keeps c op (tells reply)) (notice (done a (u, answer))).pending
        (λ z j. let x = has_map (volume.noticing (done a (u, answer))) (map (resulting a answer) u.pending) z j in
        let y = has_map (resulting a answer) u.pending x.0 x.1 in
        ap (keeps c op (tells reply)) x.2 ∙ (ap (keeps c op (tells reply)) y.2 ∙ one y.0))
      where
        same : (b : Pending) → is_ask a.client a.op b ≡ is_ask c op b
        same b =
            let x = and_true (is_of_client c a) (a.op == op) i in
            ap (λ e. is_ask e a.op b) (client_is a.client c x.0) ∙ ap (λ n. is_ask c n b) (eqb-true a.op op x.1)

        one : (b : Pending) → keeps c op (tells reply) (resulting a answer b) ≡ true
        one b = go (is_ask a.client a.op b) refl
          where
            go : (z : Bool) → is_ask a.client a.op b ≡ z → keeps c op (tells reply) (if z then record b { result = Some answer } else b) ≡ true
            go true e = or_right (not (is_ask c op b)) (tells reply answer) so
            go false e = or_left (not (is_ask c op b)) (is_any (tells reply) b.result) (ap not (sym (same b) ∙ e))

    effect_so : ((a : Pending) → find (is_ask c op) (v.pending ++ v.orphans) ≡ Some a → is_request_for s m.body a.ask ≡ true) →
        OnSome Keep (run (kinds.TakesEffect c op ∷ []) v)
    unfolding run
    effect_so for =
        on_then Keep (run []) (volume.step v (kinds.TakesEffect c op))
        (on_if Keep (v.lines == length v.log) (acts v (kinds.TakesEffect c op))
        (on_map Keep notice (option_and_then (takes v) (find (is_ask c op) (v.pending ++ v.orphans)))
        (on_then (λ u. Keep (notice u)) (takes v) (find (is_ask c op) (v.pending ++ v.orphans)) (go (find (is_ask c op) (v.pending ++ v.orphans)) refl))))
      where
        go : (o : Option Pending) → find (is_ask c op) (v.pending ++ v.orphans) ≡ o → OnSome (λ a. OnSome (λ u. Keep (notice u)) (takes v a)) o
        go None q = tt
        go (Some a) q =
            on_else (λ u. Keep (notice u)) _ _
            (on_map (λ u. Keep (notice u)) (done a) (effect v a.client a.ask)
            (on_more (λ y. Leaves v y × P y) (λ y. Keep (notice (done a y)))
            (λ y k. result_kept a (found_at (is_ask c op) (v.pending ++ v.orphans) a q).0 y k.0 k.1) (effect v a.client a.ask)
            (on_both (Leaves v) P (effect v a.client a.ask) (effect_keeps v a.client a.ask) (result_so a.client a.ask (for a q)))))

  -- The ask that the ghost has under the key of the request.
  pub request_so : (b : Behind) → find (is_behind s m.header) bs ≡ Some b → OnSome (AllKeep c b.op (tells reply)) (run (takes_op bs v s m ∷ []) v)
  unfolding run
  request_so b found =
      subst (λ o. OnSome (AllKeep c b.op (tells reply)) (run (kinds.TakesEffect c (op_of v s m o) ∷ []) v)) (sym found) (go (is_there v s m b.op) refl)
    where
      none : OnSome (AllKeep c b.op (tells reply)) (run (kinds.TakesEffect c (above_all (v.pending ++ v.orphans)) ∷ []) v)
      none =
          on_then (AllKeep c b.op (tells reply)) (run []) (volume.step v (kinds.TakesEffect c (above_all (v.pending ++ v.orphans))))
          (on_if (AllKeep c b.op (tells reply)) (v.lines == length v.log) (acts v (kinds.TakesEffect c (above_all (v.pending ++ v.orphans))))
          (subst
          (λ o. OnSome (AllKeep c b.op (tells reply)) (option_map notice (option_and_then (takes v) o)))
          (sym (none_above c (above_all (v.pending ++ v.orphans)) (v.pending ++ v.orphans) (omega arith))) tt))

      go : (z : Bool) → is_there v s m b.op ≡ z →
          OnSome (AllKeep c b.op (tells reply)) (run (kinds.TakesEffect c (if z then b.op else above_all (v.pending ++ v.orphans)) ∷ []) v)
      go false q = none
      go true q = effect_so b.op (λ a f. sym (ap (is_any (λ (x : Pending). is_request_for s m.body x.ask)) f) ∙ q)
