-- The end of a command keeps the copies, under what is owed of it.
use Rattle.st_lemmas.proofs.Words
use Words.{◌≡◌, ℕ, Bool, true, false, not, ◌&&◌, List, ◌==◌, Option, Some, None, refl, sym, ap, ◌∙◌, subst, if◌then◌else◌, eqb-true, Tag, ClientId, ServerId}
use Words.{Life, Ask, Ended, IoKind, PageCommand, LogEntry}
use Words.ends
use Words.io
use Words.Client as cl
use Words.ClientPages as pages
use Words.ClientPages.{command_of, is_numbered, version_of}
use Words.ClientState.{Turn}
use Words.Lookups.{some_is, any_filter}
use Words.Versions.{command_number}
use Rattle.st_lemmas.proofs.Contents.{self_place}
use Rattle.st_laws_refine.specs.Client.World.{logged}
use Rattle.st_laws_refine.proofs.Client.Work.{any_found}
use Rattle.st_laws_reads.specs.Copies.Copies.{Keeps}
use Rattle.st_laws_reads.specs.Copies.Obligations.{EndOwed}
use Rattle.st_laws_reads.proofs.Copies.Logs.{still}
use Rattle.st_laws_reads.proofs.Copies.Copies.{copies_kept_by_same, copies_kept_by_store, copies_kept_by_finish}
use Rattle.st_laws_reads.proofs.Copies.Caches.{copies_kept_by_filled}

same_command : (cs : List PageCommand) (number : ℕ) (x y : PageCommand) → command_of cs number ≡ Some x → command_of cs x.number ≡ Some y → y ≡ x
same_command cs number x y e f = some_is (sym f ∙ subst (λ n. command_of cs n ≡ Some x) (sym (command_number cs number x e)) e)

-- a write whose version is the page's
hard_version : (kind : IoKind) (version : ℕ) → pages.done_as kind version ≡ ends.Hard → (v : ℕ) × (kind ≡ io.Write v) × (v ≡ version)
hard_version io.Read version e = cc
hard_version (io.Write v) version e = go (v == version) refl e
  where
    go : (b : Bool) → (v == version) ≡ b → ◌≡◌ {A = Ended} (if b then ends.Hard else ends.Redirty) ends.Hard →
        (w : ℕ) × (io.Write v ≡ io.Write w) × (w ≡ version)
    go true h e = (v, refl, eqb-true _ _ h)
    go false h e = cc

module _ (ask_of : ℕ → Option Ask) (c : ClientId) (lives : ServerId → Life) (es : List LogEntry) where
  -- a read that is done
  copies_kept_by_read_done : (number : ℕ) (block : Tag × List ℕ) (t : Turn) (x : PageCommand) → command_of t.here.store.commands number ≡ Some x →
      x.kind ≡ io.Read →
      EndOwed c (lives t.here.server) (logged c lives t.out es) t.here number (Some (Some block)) →
      Keeps ask_of c lives es t (cl.finish_command t x true (Some block))
  unfolding cl.finish_command cl.ended_by cl.finish_as cl.filled_by pages.end_command pages.end_at
  copies_kept_by_read_done number block t x is kind w = go (command_of t.here.store.commands x.number) refl
    where
      v : ℕ
      v = version_of t.here.store.pages x.ino x.page

      u : Turn
      u = cl.with_commands (pages.without_command x.number t.here.store.commands) t

      ended : Keeps ask_of c lives es t u
      ended =
          copies_kept_by_store ask_of c lives es t u.here.store
          (λ now j q r. record {
            mode = r.mode;
            dirty = r.dirty;
            clean = r.clean;
            unmapped = r.unmapped;
            locked = r.locked;
            known = r.known;
            reading =
                λ e. r.reading (any_filter (pages.is_read_of j q) _ t.here.store.commands e);
          }) (λ j q e. e)

      being : pages.is_being_read t.here.store.commands x.ino x.page ≡ true
      being = any_found (is_numbered number) (pages.is_read_of x.ino x.page) x t.here.store.commands is
          (subst (λ k. (not (pages.is_write k) && ((x.ino == x.ino) && (x.page.0 == x.page.0))) ≡ true) (sym kind) (self_place x.ino x.page))

      filled : Keeps ask_of c lives es t (cl.finish_as u x (Some block) ends.Filled)
      filled =
          record {
            keep = λ r. (copies_kept_by_filled ask_of c lives es u x.ino x.page _ ((r.pages x.ino x.page).reading being) (w.read x block is kind refl)).keep
                (ended.keep r);
            away = still _ _ _;
          }

      by : (k : IoKind) → k ≡ io.Read → Keeps ask_of c lives es t (cl.finish_as u x (Some block) (pages.done_as k v))
      by io.Read e = filled
      by (io.Write n) e = cc

      go : (o : Option PageCommand) → command_of t.here.store.commands x.number ≡ o →
          Keeps ask_of c lives es t (cl.ended_by t x (Some block) (pages.end_at t.here.store.commands x.number true v o))
      go None e = copies_kept_by_same ask_of c lives es t
      go (Some y) e = by y.kind (ap (λ (z : PageCommand). z.kind) (same_command t.here.store.commands number x y is e) ∙ kind)

  -- the end of any command
  pub copies_kept_by_end_of : (number : ℕ) (result : Option (Option (Tag × List ℕ))) (t : Turn) →
      EndOwed c (lives t.here.server) (logged c lives t.out es) t.here number result → Keeps ask_of c lives es t (cl.finish number result t)
  unfolding cl.finish cl.finish_at cl.finish_by cl.done_by
  copies_kept_by_end_of number (Some (Some block)) t w = go (command_of t.here.store.commands number) refl
    where
      by : (x : PageCommand) → command_of t.here.store.commands number ≡ Some x → (k : IoKind) → x.kind ≡ k →
          Keeps ask_of c lives es t (if cl.is_result_of k (Some block) then cl.finish_command t x true (Some block) else t)
      by x is io.Read e = copies_kept_by_read_done number block t x is e w
      by x is (io.Write v) e = copies_kept_by_same ask_of c lives es t

      go : (o : Option PageCommand) → command_of t.here.store.commands number ≡ o → Keeps ask_of c lives es t (cl.finish_at t o (Some (Some block)))
      go None e = copies_kept_by_same ask_of c lives es t
      go (Some x) e = by x e x.kind refl
  copies_kept_by_end_of number None t w = copies_kept_by_finish ask_of c lives es number None t (λ b e. cc) (λ x y q e f h. cc)
  copies_kept_by_end_of number (Some None) t w =
      copies_kept_by_finish ask_of c lives es number (Some None) t (λ b e. cc)
      (λ x y q e f h. let z = hard_version y.kind (version_of t.here.store.pages x.ino x.page) h in
      w.hard x z.0 e (sym (ap (λ (n : PageCommand). n.kind) (same_command t.here.store.commands number x y e f)) ∙ z.1) refl z.2)
