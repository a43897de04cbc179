-- In every run each page that a server has mapped lies on one block, and belongs to a file of that server.
use Rattle.st_lemmas.proofs.Words
use Words.{◌≡◌, ◌⊎◌, ℕ, List, [], ◌∷◌, ◌++◌, Ok, refl, sym, ap, ◌∙◌, subst, inl, inr, map, FileId, PageNo, ServerId, Stamp, Body, Header, Extent, ServerInput}
use Words.Events.{WorldTurn}
use Words.Extents as extents
use Words.Extents.{Extents}
use Words.History.{Traced, traced}
use Words.Lists.{Has}
use Words.Safety.{Step, steps}
use Words.Server as sv
use Words.Server.{ServerNode, ServerState, ServerTurn, Stable}
use Words.Tables.{has_map}
use Words.World as world
use Words.World.{fresh_world}
use Rattle.st_lemmas.proofs.Steps.{step_happens, throughout_all}
use Rattle.st_trace.specs.Server.Changing.{StableChange, Stays, Changes}
use Rattle.st_trace.specs.Server.Edits as edits
use Rattle.st_trace.specs.Server.Edits.{Ruled}
use Rattle.st_trace.proofs.Server.Allocating.{allocated_pages_are_placed}
use Rattle.st_trace.proofs.Server.StableParts.{step_stable}
use Rattle.st_laws_volume.specs.Logs.{InEveryRun}
use Rattle.st_laws_volume.specs.PageBlocks.{AllLie, PagesLie, PagesLieOnOneBlock}
use Rattle.st_laws_volume.specs.TreeNames.{IsSound}
use Rattle.st_laws_volume.specs.Witness.{Witness, begun}
use Rattle.st_laws_volume.proofs.Carried.{IsKept, Led, carried}
use Rattle.st_laws_volume.proofs.MappedFiles.{placed_rows, rows_fewer}
use Rattle.st_laws_volume.proofs.PageBlocks.{allocate_once}
use Rattle.st_laws_volume.proofs.ReadPages.{throughout_more}
use Rattle.st_laws_volume.proofs.ServerFolds.{event_has}
use Rattle.st_laws_volume.proofs.Trees.{Nothing, TreesHold, trees_begin, trees_kept}

-- Fewer pages
fewer : (s : ServerId) (f : FileId) (p : PageNo) (x : Extents) → PagesLie s x → PagesLie s (extents.release_from x f p)
fewer s f p x h =
    record {
      once = λ d e i j q r. h.once d e (rows_fewer f p x d i) (rows_fewer f p x e j) q r;
      own = λ e i. h.own e (rows_fewer f p x e i);
    }

-- What a request makes of the pages
module _ (s : ServerId) (now : Stamp) (t : ServerTurn) (id : t.state.id ≡ s) (old : PagesLie s t.state.stable.extents) where
  allocated : (ino : ℕ) (p : PageNo) (count : ℕ) (y : Extents) → extents.allocate t.state.stable.extents (sv.file t ino) p count ≡ Ok y → PagesLie s y
  allocated ino p count y e =
      record {
        once = allocate_once t.state.stable.extents (sv.file t ino) p count y e old.once;
        own =
            λ x i. own x
            (placed_rows (sv.file t ino) (extents.unmapped t.state.stable.extents (sv.file t ino) p count) t.state.stable.extents x
            (subst (λ (w : Extents). Has x w.rows) (sym (allocated_pages_are_placed t.state.stable.extents (sv.file t ino) p count y e)) i));
      }
    where
      own : (x : Extent) → Has x t.state.stable.extents.rows ⊎ (x.file ≡ sv.file t ino) → x.file.server ≡ s
      own x (inl j) = old.own x j
      own x (inr j) = ap (λ (f : FileId). f.server) j ∙ id

  rule_lies : (h : Header) (m : Body) (u : ServerTurn) (b : Body) → Ruled now t h m u b → PagesLie s u.state.stable.extents
  unfolding sv.cut_whole sv.cut_pages
  rule_lies h m _ b (edits.Tells _ _ k) = old
  rule_lies h m _ b (edits.Acquires ino mode a f k g) = old
  rule_lies h m _ b (edits.Releases ino g to l e f) = old
  rule_lies h m _ b (edits.Allocates ino g p count y f q e) = allocated ino p count y e
  rule_lies h m _ b (edits.Cuts ino g p f q) = fewer s (sv.file t ino) p t.state.stable.extents old
  rule_lies h m _ b (edits.Creates dir l d e) = old
  rule_lies h m _ b (edits.MakesDir dir l d e) = old
  rule_lies h m _ b (edits.Renames dir l dir2 l2 d e) = old
  rule_lies h m _ b (edits.RemovesDir dir l g ino d k f z e q) = old
  rule_lies h m _ b (edits.RemovesFile dir l g ino d k f z e q) = fewer s _ _ t.state.stable.extents old

abbrev Lies : ServerId → Stable → Type 0
Lies s y = PagesLie s y.extents

step_lies : (n : ServerState) (now : Stamp) (i : ServerInput) → IsSound n.stable.names → Lies n.id n.stable →
    Lies n.id (sv.server_step n now i).state.stable
step_lies n now i sound h = go (sv.server_step n now i).state.stable (step_stable n now i)
  where
    go : (y : Stable) → StableChange n now i y → Lies n.id y
    go _ Stays = h
    go _ (Changes m t u b v r) =
        let x = v.asked.heard.came.begun in rule_lies n.id now t x.id (subst (Lies n.id) (sym x.stable) h) m.header m.body u b r

lies_alike : (s : ServerId) (y z : Stable) → z.names ≡ y.names → z.extents ≡ y.extents → Lies s y → Lies s z
lies_alike s y z n x h = subst (PagesLie s) (sym x) h

-- In every run.
pub record LieHold (past : List Step) (t : Traced) (it : Witness) : Type 0 where
  pub trees : TreesHold past t it
  pub lie : AllLie t.world

pub lie_kept : IsKept Nothing LieHold
lie_kept past t e sc it f g h =
    record {
      trees = trees_kept past t e sc it f g h.trees;
      lie =
          subst (λ (z : WorldTurn). AllLie z.world) (sym (step_happens t.world e sc f).1)
          (event_has Lies lies_alike step_lies t.world h.trees.sound h.lie e);
    }

pub lie_begins : (k : Words.Config) (clients servers disks blocks form : ℕ) →
    LieHold [] (traced (fresh_world k clients servers disks blocks form))
    (begun (fresh_world k clients servers disks blocks form) (fresh_world k clients servers disks blocks form))
unfolding fresh_world sv.fresh_server
lie_begins k clients servers disks blocks form =
    record {
      trees = trees_begin k clients servers disks blocks form;
      lie =
          λ node i.
          let z = has_map (world.node_at_start k servers disks blocks) (extents.numbers 1 servers) node i in
          subst (λ (n : ServerNode). PagesLie n.state.id n.state.stable.extents) (sym z.2)
          (record { once = λ d e j k q r. absurd j; own = λ e j. absurd j });
    }

pub pages_lie_on_one_block : InEveryRun PagesLieOnOneBlock
pages_lie_on_one_block k clients servers disks blocks form es head events =
    throughout_more (Led LieHold) PagesLieOnOneBlock (λ past x h. h.lie) [] (steps es (traced (fresh_world k clients servers disks blocks form)))
    (carried Nothing LieHold lie_kept es (traced (fresh_world k clients servers disks blocks form)) (lie_begins k clients servers disks blocks form)
    (throughout_all Nothing (λ past t e sc f. tt) es [] (traced (fresh_world k clients servers disks blocks form))))
