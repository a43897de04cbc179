-- What joins the log of the volume as a cut or an ask for a name takes effect.
use Rattle.std.proofs.Common.{◌≡◌, ℕ, zero, suc, ◌+◌, arith, Bool, true, false, ◌==◌, List, [], ◌∷◌, ◌++◌, length, Option, Some, None, refl, sym, ap, ◌∙◌, subst, if◌then◌else◌}
use Rattle.std.specs.Prelude.{find, option_map, option_and_then}
use Rattle.std.specs.List.{list_any}
use Rattle.st_base.specs.declared.ids.ClientId.{ClientId}
use Rattle.st_base.specs.declared.ids.FileId.{FileId}
use Rattle.st_base.specs.declared.ids.PageNo.{PageNo}
use Rattle.st_base.specs.declared.ids.ServerId.{ServerId}
use Rattle.st_base.specs.declared.names.NameAsk.{NameAsk}
use Rattle.st_base.specs.declared.names.NameAsk.TheVariants as asked
use Rattle.st_messages.specs.declared.answer.AppAnswer.{AppAnswer}
use Rattle.st_messages.specs.declared.answer.AppAnswer.TheVariants as answers
use Rattle.st_messages.specs.declared.ask.Ask.{Ask}
use Rattle.st_messages.specs.declared.ask.Ask.TheVariants as asks
use Rattle.st_messages.specs.declared.message.Message.{Message}
use Rattle.st_rules.specs.Server.{sender}
use Rattle.st_laws_volume.specs.Options.{OnSome}
use Rattle.st_laws_volume.specs.Witness.{Behind, above_all, is_behind, is_request_for, is_there, op_of, takes_op}
use Rattle.st_laws_volume.proofs.Options.{on_all, on_else, on_if, on_map, on_more, on_then, on_true}
use Rattle.st_laws_volume.proofs.TreeSteps.{none_above}
use Rattle.st_volume.specs.declared.step.VolumeStep.TheVariants as kinds
use Rattle.st_volume.specs.declared.step.Fate.TheVariants as fates
use Rattle.st_volume.specs.Pages.{Entry, is_any}
use Rattle.st_volume.specs.Trees.{DirEntry, Made, Tree, does, entry_at, fault_of, refuses, removes, removes_dir, removes_file, takes_out, unless}
use Rattle.st_volume.specs.Volume as volume
use Rattle.st_volume.specs.Volume.{Volume, Pending, acts, cuts, cuts_removed, done, effect, entry, freed, is_ask, made, notice, run, takes, tree_of, with_entry, with_tree}

-- An entry has joined the log, and has no line yet.
pub record Joins (v u : Volume) (what : Ask) : Type 0 where
  pub joined : Entry
  pub lines : u.lines ≡ v.lines
  pub log : u.log ≡ v.log ++ joined ∷ []
  pub is : joined.what ≡ what

abbrev pub whole_file : ServerId → ℕ → Ask
whole_file s ino = asks.Cut (record { server = s; ino = ino }) (record { 0 = 0 })

-- what an ask for a name made, and what it cut
pub record MakesCut (v : Volume) (s : ServerId) (ask : NameAsk) (u : Volume) : Type 0 where
  pub tree : Tree
  pub there : tree_of v s ≡ Some tree
  pub result : Made
  pub did : does tree ask ≡ Some result
  pub cut : (ino : ℕ) → result.1.1 ≡ Some ino → Joins v u (whole_file s ino)
  pub left : result.1.1 ≡ None → (u.lines ≡ v.lines) × (u.log ≡ v.log)

abbrev pub LogOf : Volume → Ask → Volume → Type 0
LogOf v (asks.Cut f p) u = Joins v u (asks.Cut f p)
LogOf v (asks.Name s ask) u = MakesCut v s ask u
LogOf v ask u = Unit {0}

cut_joins : (v : Volume) (c : ClientId) (f : FileId) (p : PageNo) → OnSome (λ u. Joins v u (asks.Cut f p)) (cuts v c f p)
cut_joins v c f p =
    on_if (λ u. Joins v u (asks.Cut f p)) _ (Some (record v { claims = freed v (asks.Cut f p); log = v.log ++ entry c (asks.Cut f p) fates.Hard ∷ [] }))
    (record { joined = entry c (asks.Cut f p) fates.Hard; lines = refl; log = refl; is = refl })

abbrev LeftLog : Volume → Ask → Volume × AppAnswer → Type 0
LeftLog v ask r = LogOf v ask r.0

-- what a removal cuts
abbrev Removed : Volume → ServerId → Option ℕ → Volume → Type 0
Removed v s removed u =
    ((ino : ℕ) → removed ≡ Some ino → Joins v u (whole_file s ino)) × (removed ≡ None → (u.lines ≡ v.lines) × (u.log ≡ v.log))

removal_joins : (v : Volume) (c : ClientId) (s : ServerId) (removed : Option ℕ) → OnSome (Removed v s removed) (cuts_removed v c s removed)
removal_joins v c s None = (λ ino q. absurd (none q), λ q. (refl, refl))
  where
    none : {ino : ℕ} → ◌≡◌ {A = Option ℕ} None (Some ino) → ⊥
    none q = cc
removal_joins v c s (Some ino) =
    on_more (λ u. Joins v u (whole_file s ino)) (Removed v s (Some ino))
    (λ u k. (λ i q. subst (λ n. Joins v u (whole_file s n)) (one q) k, λ q. absurd (none q)))
    (cuts v c (record { server = s; ino = ino }) (record { 0 = 0 }))
    (cut_joins v c (record { server = s; ino = ino }) (record { 0 = 0 }))
  where
    one : {i j : ℕ} → Some i ≡ Some j → i ≡ j
    one q = cc

    none : ◌≡◌ {A = Option ℕ} (Some ino) None → ⊥
    none q = cc

effect_log : (v : Volume) (c : ClientId) (ask : Ask) → OnSome (LeftLog v ask) (effect v c ask)
effect_log v c (asks.Write f p bytes) =
    on_map (LeftLog v (asks.Write f p bytes)) (λ w. (w, answers.Written)) (with_entry v f (entry c (asks.Write f p bytes) fates.Open))
    (on_all (λ w. Unit {0}) (λ w. tt) (with_entry v f (entry c (asks.Write f p bytes) fates.Open)))
effect_log v c (asks.Patch f p at bytes) =
    on_map (LeftLog v (asks.Patch f p at bytes)) (λ w. (w, answers.Written)) (with_entry v f (entry c (asks.Patch f p at bytes) fates.Open))
    (on_all (λ w. Unit {0}) (λ w. tt) (with_entry v f (entry c (asks.Patch f p at bytes) fates.Open)))
effect_log v c (asks.Read f p) = tt
effect_log v c (asks.Sync f) = tt
effect_log v c (asks.Cut f p) = on_map (LeftLog v (asks.Cut f p)) (λ w. (w, answers.Cut)) (cuts v c f p) (cut_joins v c f p)
effect_log v c (asks.Name s ask) = tree (tree_of v s) refl
  where
    by : (t : Tree) → tree_of v s ≡ Some t → (m : Made) → does t ask ≡ Some m → OnSome (LeftLog v (asks.Name s ask)) (made v c s m)
    by t q (t2, (answer, removed)) d =
        on_map (LeftLog v (asks.Name s ask)) (λ w. (w, answer)) (option_map (with_tree s t2) (cuts_removed v c s removed))
        (on_map (MakesCut v s ask) (with_tree s t2) (cuts_removed v c s removed)
        (on_more (Removed v s removed) (λ w. MakesCut v s ask (with_tree s t2 w))
        (λ w k. record {
          tree = t;
          there = q;
          result = (t2, (answer, removed));
          did = d;
          cut = λ ino e. let j = k.0 ino e in record { joined = j.joined; lines = j.lines; log = j.log; is = j.is };
          left = λ e. let j = k.1 e in (j.0, j.1);
        })
        (cuts_removed v c s removed) (removal_joins v c s removed)))

    reached : (t : Tree) → tree_of v s ≡ Some t → (o : Option Made) → does t ask ≡ o → OnSome (LeftLog v (asks.Name s ask)) (option_and_then (made v c s) o)
    reached t q None d = tt
    reached t q (Some m) d = by t q m d

    tree : (o : Option Tree) → tree_of v s ≡ o → OnSome (LeftLog v (asks.Name s ask)) (option_and_then (made v c s) (option_and_then (λ t. does t ask) o))
    tree None q = tt
    tree (Some t) q = reached t q (does t ask) refl

left_so : (v : Volume) (a : Pending) (ask : Ask) (r : Volume × AppAnswer) → LogOf v ask r.0 → LogOf v ask (notice (done a r))
left_so v a (asks.Write f p bytes) r h = tt
left_so v a (asks.Patch f p at bytes) r h = tt
left_so v a (asks.Read f p) r h = tt
left_so v a (asks.Sync f) r h = tt
left_so v a (asks.Cut f p) (u, answer) h = record { joined = h.joined; lines = h.lines; log = h.log; is = h.is }
left_so v a (asks.Name s ask) (u, answer) h =
    record {
      tree = h.tree;
      there = h.there;
      result = h.result;
      did = h.did;
      cut = λ ino e. let j = h.cut ino e in record { joined = j.joined; lines = j.lines; log = j.log; is = j.is };
      left = λ e. let j = h.left e in (j.0, j.1);
    }

takes_log : (v : Volume) (a : Pending) → OnSome (λ u. LogOf v a.ask (notice u)) (takes v a)
takes_log v a =
    on_else (λ u. LogOf v a.ask (notice u)) _ _
    (on_map (λ u. LogOf v a.ask (notice u)) (done a) (effect v a.client a.ask)
    (on_more (LeftLog v a.ask) (λ r. LogOf v a.ask (notice (done a r))) (λ r k. left_so v a a.ask r k) (effect v a.client a.ask)
    (effect_log v a.client a.ask)))

-- An ask takes effect.
log_taken : (P : Volume → Type 0) (v : Volume) (c : ClientId) (op : ℕ) →
    ((a : Pending) → find (is_ask c op) (v.pending ++ v.orphans) ≡ Some a → (u : Volume) → LogOf v a.ask u → P u) →
    OnSome P (run (kinds.TakesEffect c op ∷ []) v)
unfolding run
log_taken P v c op h =
    on_then P (run []) (volume.step v (kinds.TakesEffect c op))
    (on_true P (v.lines == length v.log) (acts v (kinds.TakesEffect c op))
    (λ m. on_map P notice (option_and_then (takes v) (find (is_ask c op) (v.pending ++ v.orphans)))
    (on_then (λ u. P (notice u)) (takes v) (find (is_ask c op) (v.pending ++ v.orphans))
    (go (find (is_ask c op) (v.pending ++ v.orphans)) h))))
  where
    go : (o : Option Pending) → ((a : Pending) → o ≡ Some a → (u : Volume) → LogOf v a.ask u → P u) → OnSome (λ a. OnSome (λ u. P (notice u)) (takes v a)) o
    go None h = tt
    go (Some a) h = on_more (λ u. LogOf v a.ask (notice u)) (λ u. P (notice u)) (λ u k. h a refl (notice u) k) (takes v a) (takes_log v a)

-- The ask that led to a request takes effect, or none.
module _ (bs : List Behind) (v : Volume) where
  unknown : (P : Volume → Type 0) (c : ClientId) → OnSome P (run (kinds.TakesEffect c (above_all (v.pending ++ v.orphans)) ∷ []) v)
  unknown P c =
      log_taken P v c (above_all (v.pending ++ v.orphans))
      (λ a q u e. absurd (none (sym (none_above c (above_all (v.pending ++ v.orphans)) (v.pending ++ v.orphans) (omega arith)) ∙ q)))
    where
      none : {a : Pending} → None ≡ Some a → ⊥
      none q = cc

  pub request_log : (P : Volume → Type 0) (s : ServerId) (m : Message) → ((a : Ask) (u : Volume) → is_request_for s m.body a ≡ true → LogOf v a u → P u) →
      OnSome P (run (takes_op bs v s m ∷ []) v)
  request_log P s m h = found (find (is_behind s m.header) bs)
    where
      matched : (op : ℕ) (b : Bool) → is_there v s m op ≡ b →
          OnSome P (run (kinds.TakesEffect (sender m.header) (if b then op else above_all (v.pending ++ v.orphans)) ∷ []) v)
      matched op false q = unknown P (sender m.header)
      matched op true q =
          log_taken P v (sender m.header) op (λ a f u e. h a.ask u (sym (ap (is_any (λ (x : Pending). is_request_for s m.body x.ask)) f) ∙ q) e)

      found : (o : Option Behind) → OnSome P (run (kinds.TakesEffect (sender m.header) (op_of v s m o) ∷ []) v)
      found None = unknown P (sender m.header)
      found (Some b) = matched b.op (is_there v s m b.op) refl

-- A remove that cuts a file answers with its inode.
abbrev pub answers_removed : Option Made → ℕ → Type 0
answers_removed None ino = Unit {0}
answers_removed (Some m) ino = m.1.1 ≡ Some ino → m.1.0 ≡ answers.Named ino

removes_named : (t : Tree) (dir : ℕ) (name : List ℕ) (ino j : ℕ) (o : Option DirEntry) → answers_removed (removes t dir name ino o) j
removes_named t dir name ino j None = λ q. absurd (none q)
  where
    none : ◌≡◌ {A = Option ℕ} None (Some j) → ⊥
    none q = cc
removes_named t dir name ino j (Some e) = kind e.directory
  where
    none : ◌≡◌ {A = Option ℕ} None (Some j) → ⊥
    none q = cc

    empty : (b : Bool) → answers_removed (if b then refuses t 5 else takes_out t dir name e.ino None) j
    empty true = λ q. absurd (none q)
    empty false = λ q. absurd (none q)

    dir_named : (i : ℕ) → answers_removed (removes_dir t dir name i e) j
    dir_named zero = empty (list_any (λ d. d.dir == e.ino) t.entries)
    dir_named (suc i) = λ q. absurd (none q)

    same : Some ino ≡ Some j → answers.Named ino ≡ answers.Named j
    same q = cc

    file_named : (b : Bool) → answers_removed (if b then takes_out t dir name ino (Some ino) else None) j
    file_named true = same
    file_named false = tt

    kind : (b : Bool) → answers_removed (if b then removes_dir t dir name ino e else removes_file t dir name ino e) j
    kind true = dir_named ino
    kind false = file_named (e.ino == ino)

pub does_named : (t : Tree) (dir : ℕ) (name : List ℕ) (ino j : ℕ) → answers_removed (does t (asked.Remove dir name ino)) j
does_named t dir name ino j = go (fault_of t dir name)
  where
    none : ◌≡◌ {A = Option ℕ} None (Some j) → ⊥
    none q = cc

    go : (n : ℕ) → answers_removed (unless t n (removes t dir name ino (entry_at t dir name))) j
    go zero = removes_named t dir name ino j (entry_at t dir name)
    go (suc n) = λ q. absurd (none q)
