-- In the pass of operations each leave waits for its turn, and only then is it answered.
use Rattle.st_lemmas.proofs.Words
use Words.{◌≡◌, ◌<◌, ℕ, ◌&&◌, Bool, true, false, not, List, ◌∷◌, Option, Some, None, find, refl, ap, sym, subst, inr, arith, if◌then◌else◌, eqb-true, ne_eqb}
use Words.{Ask, FileId, Note, Operation, PageNo, Stamp}
use Words.answers
use Words.asks
use Words.notes
use Words.ClientPages as pages
use Words.ClientPasses as passes
use Words.ClientState.{ClientSession, file_of, is_of, is_serving, keep}
use Words.FlatLog.{overlay}
use Words.Lists.{Has}
use Words.Tables.{found_at, has_filter_in}
use Rattle.st_third.specs.declared.beside.Leave.{Leave}
use Rattle.st_third.specs.Client as third
use Rattle.st_third.specs.Leave as leaving
use Rattle.st_third.specs.Limits.{is_dirty_full}
use Rattle.st_third.specs.Room as room
use Rattle.st_third.specs.State as state
use Rattle.st_third.specs.State.{ThirdTurn, here, is_active, plainly, session}
use Rattle.st_third.specs.UsedOnce as used

-- Serving an operation leaves the leaves.
module _ (t : ThirdTurn) (o : Operation) where
  changed_same : (f : FileId) (p : PageNo) (bytes : List ℕ) (n : Note) → (room.change_page t o f p bytes n).leaves ≡ t.leaves
  unfolding room.change_page room.without_room plainly
  changed_same f p bytes n = go (is_dirty_full t.limits.dirty t.plain.here.store.pages f.ino p) (room.is_hopeless t.plain.here.store)
    where
      go : (b d : Bool) →
          (if b then (if d then plainly (passes.answer o answers.DirtyFull) t else room.waiting_for_room o t) else plainly (room.changed o f p bytes n)
          t).leaves
          ≡ t.leaves
      go true true = refl
      go true false = refl
      go false d = refl

  served_same : (s : ClientSession) (ask : Ask) → (room.serve_open t s o ask).leaves ≡ t.leaves
  unfolding room.serve_open room.write room.patch room.patch_at plainly
  served_same s (asks.Write f p bytes) = go (passes.may_write t.plain s f p)
    where
      go : (b : Bool) → (if b then room.change_page t o f p bytes (notes.Accepted f p bytes) else plainly (keep o) t).leaves ≡ t.leaves
      go true = changed_same f p bytes (notes.Accepted f p bytes)
      go false = refl
  served_same s (asks.Patch f p at bytes) = go (passes.may_write t.plain s f p) (pages.cached t.plain.here.store.pages f.ino p)
    where
      go : (b : Bool) (c : Option (List ℕ)) → (if b then room.patch_at t o f p at bytes c else plainly (keep o) t).leaves ≡ t.leaves
      go true None = refl
      go true (Some old) = changed_same f p (overlay at bytes old) (notes.Patched f p at bytes)
      go false c = refl
  served_same s (asks.Read f p) = refl
  served_same s ask = refl

  operated_same : (now : Stamp) (os : List Operation) (ls : List Leave) → (third.operate os ls t now o).leaves ≡ t.leaves
  unfolding third.operate third.operate_on third.operate_by third.operate_under third.serve plainly
  operated_same now os ls = go (is_of (here t) o)
    where
      serving : (s : ClientSession) (b : Bool) → (if b then room.serve_open t s o o.ask else plainly (keep o) t).leaves ≡ t.leaves
      serving s true = served_same s o.ask
      serving s false = refl

      under : (s : ClientSession) (b : Bool) → (if b then third.serve os ls t s o else plainly (third.quiesced o) t).leaves ≡ t.leaves
      under s true = serving s (is_active ls (here t) o && used.is_open os t s o (file_of o.ask))
      under s false = refl

      by : (x : Option ClientSession) → (third.operate_by os ls t now o x).leaves ≡ t.leaves
      by None = refl
      by (Some s) = under s (is_serving t.plain.config s now)

      on : (ask : Ask) → (third.operate_on os ls t now o ask).leaves ≡ t.leaves
      on (asks.Sync f) = refl
      on ask = by (session t)

      go : (b : Bool) → (if b then third.operate_on os ls t now o o.ask else plainly (keep o) t).leaves ≡ t.leaves
      go true = on o.ask
      go false = refl

-- The leaves whose number hasn't come yet are pending.
abbrev pub AwaitTheirTurn : List Leave → List ℕ → List Leave → Type 0
AwaitTheirTurn ls ns pending = (l : Leave) → Has l ls → Has l.op ns → Has l pending

-- So they are after a number's turn.
pub await_on : (now : Stamp) (os : List Operation) (ls : List Leave) (op : ℕ) (ops : List ℕ) (t : ThirdTurn) → ((n : ℕ) → Has n ops → op < n) →
    AwaitTheirTurn ls (op ∷ ops) t.leaves → (o : Option Operation) → AwaitTheirTurn ls ops (third.operate_either os ls now op t o).leaves
unfolding third.operate_either leaving.serve_leave_at leaving.serve_leave leaving.left state.say
await_on now os ls op ops t above p (Some o) l h i = subst (Has l) (sym (operated_same t o now os ls)) (p l h (inr i))
await_on now os ls op ops t above p None l h i = at (find (state.is_leave_numbered op) ls) refl
  where
    done : (x : Leave) → x.op ≡ op → (b : Bool) → Has l (if b then leaving.left x t else t).leaves
    done x e true =
        has_filter_in (λ y. not (state.is_leave_numbered x.op y)) t.leaves l (p l h (inr i))
        (ap not (ne_eqb l.op x.op (λ q. let a = above l.op i in omega (arith, a, q, e))))
    done x e false = p l h (inr i)

    at : (x : Option Leave) → find (state.is_leave_numbered op) ls ≡ x → Has l (leaving.serve_leave_at t x).leaves
    at None q = p l h (inr i)
    at (Some x) q = done x (eqb-true x.op op (found_at (state.is_leave_numbered op) ls x q).0) (leaving.is_done t x)
