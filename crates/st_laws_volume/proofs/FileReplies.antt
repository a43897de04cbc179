-- Why a server refuses a request: what it replies by the rule of the request, and what holds then.
use Rattle.st_lemmas.proofs.Words
use Words.{◌≡◌, ℕ, true, false, List, [], Option, Some, None, Ok, Err, refl, sym, ap, ◌∙◌, subst, if◌then◌else◌, Result, Body, GrantNo, Header, Mode, NameOp}
use Words.{AcquireRefusal, AllocateRefusal, PageNo, Stamp, Verdict, Why}
use Words.bodies
use Words.modes
use Words.ops
use Words.verdicts
use Words.wants
use Words.why
use Words.ClientState.{is_refusal}
use Words.Extents as extents
use Words.Extents.{Extents}
use Words.Locks as locks
use Words.Lookups.{some_is}
use Words.Names as names
use Words.Server as sv
use Words.Server.{ServerTurn}
use Words.Tables.{cond_either}
use Words.Truth.{clash}
use Rattle.st_trace.specs.Server.Edits.{file_in, lock_in}
use Rattle.st_laws_volume.proofs.NameReplies.{IsNamed, NameReplied, RemovesNot, name_replied}

pub data Answers (t : ServerTurn) (h : Header) (b : Body) : Option Body → Type 0 where
  IsSilent : Answers t h b None
  IsDone : (r : Body) → is_refusal r ≡ false → Answers t h b (Some r)
  IsNoFile : (ino : ℕ) → file_in b ≡ Some ino → sv.is_file t ino ≡ false → Answers t h b (Some (bodies.Nack why.NoFile ino 0))
  HoldsNot : (ino : ℕ) (g : GrantNo) (mode : Mode) → lock_in b ≡ Some (ino, g, mode) → sv.is_file t ino ≡ true → sv.holds t h ino g mode ≡ false →
      Answers t h b (Some (bodies.Nack why.NotHolder ino g.0))
  HasTooMany : (ino : ℕ) (mode : Mode) → b ≡ bodies.Acquire ino mode → Answers t h b (Some (bodies.Nack why.TooManyLocks t.state.locks.limit 0))
  HasNoSpace : (ino : ℕ) (g : GrantNo) (p : PageNo) (count free wanted : ℕ) → b ≡ bodies.Allocate ino g p count →
      extents.allocate t.state.stable.extents (sv.file t ino) p count ≡ Err (wants.NoSpace free wanted) →
      Answers t h b (Some (bodies.Nack why.NoSpace free wanted))
  IsOfName : (op : NameOp) (r : Option Body) → b ≡ bodies.Name op → NameReplied t h op r → Answers t h b r

module _ (t : ServerTurn) (now : Stamp) (h : Header) where
  module _ (b : Body) where
    abbrev So : sv.Replied → Type 0
    So a = Answers t h b a.reply

    no_file : (ino : ℕ) → file_in b ≡ Some ino → sv.is_file t ino ≡ false → So (sv.no_file t ino)
    unfolding sv.no_file
    no_file ino e f = IsNoFile ino e f

    -- on a file that is there
    of_file : (ino : ℕ) (there : sv.Replied) → file_in b ≡ Some ino → (sv.is_file t ino ≡ true → So there) →
        So (if sv.is_file t ino then there else sv.no_file t ino)
    of_file ino there e h = cond_either So (sv.is_file t ino) there (sv.no_file t ino) h (λ f. no_file ino e f)

    -- under a lock on it
    under_lock : (ino : ℕ) (g : GrantNo) (mode : Mode) (held : sv.Replied) → lock_in b ≡ Some (ino, g, mode) → sv.is_file t ino ≡ true → So held →
        So (if sv.holds t h ino g mode then held else sv.not_holder t ino g)
    unfolding sv.not_holder
    under_lock ino g mode held e f k =
        cond_either So (sv.holds t h ino g mode) held (sv.not_holder t ino g) (λ q. k) (λ q. HoldsNot ino g mode e f q)

  acquired : (ino : ℕ) (mode : Mode) → Answers t h (bodies.Acquire ino mode) (sv.acquire_lock t now h ino mode).reply
  unfolding sv.acquire_lock sv.acquire_by
  acquired ino mode = go (locks.acquire t.state.locks (sv.sender h) (sv.life_in h) ino mode (sv.grants_now t now))
    where
      told : (v : Verdict) → Answers t h (bodies.Acquire ino mode) (Some (sv.verdict_body ino mode v))
      told (verdicts.Granted g held) = IsDone (bodies.Granted ino g held) refl
      told (verdicts.Queued clients) = IsDone (bodies.Queued ino mode) refl

      go : (r : Result locks.Acquired AcquireRefusal) → Answers t h (bodies.Acquire ino mode) (sv.acquire_by t ino mode r).reply
      go (Ok a) = told a.verdict
      go (Err r) = HasTooMany ino mode refl

  allocated : (ino : ℕ) (g : GrantNo) (p : PageNo) (count : ℕ) → Answers t h (bodies.Allocate ino g p count) (sv.allocate_pages t ino p count).reply
  unfolding sv.allocate_pages sv.allocate_by sv.with_extents_told
  allocated ino g p count = go (extents.allocate t.state.stable.extents (sv.file t ino) p count) refl
    where
      go : (r : Result Extents AllocateRefusal) → extents.allocate t.state.stable.extents (sv.file t ino) p count ≡ r →
          Answers t h (bodies.Allocate ino g p count) (sv.allocate_by t ino p count r).reply
      go (Ok x) e = IsDone (sv.extents_body (sv.with_extents x t) ino p count) refl
      go (Err (wants.NoSpace free wanted)) e = HasNoSpace ino g p count free wanted refl e

  pub answers : (b : Body) → Answers t h b (sv.rule t now h b).reply
  unfolding sv.rule sv.keep_alive sv.acquire sv.released sv.released_by sv.map sv.map_held sv.map_page sv.allocate sv.allocate_held sv.cut sv.cut_held sv.cut_from
  answers bodies.KeepAlive = IsDone bodies.Ack refl
  answers (bodies.Acquire ino mode) = of_file (bodies.Acquire ino mode) ino (sv.acquire_lock t now h ino mode) refl (λ f. acquired ino mode)
  answers (bodies.Released ino g to) = IsDone bodies.Ack refl
  answers (bodies.Map ino g p) =
      of_file (bodies.Map ino g p) ino (sv.map_held t h ino g p) refl
      (λ f. under_lock (bodies.Map ino g p) ino g modes.S (sv.map_page t ino p) refl f (IsDone (sv.extents_body t ino p 1) refl))
  answers (bodies.Allocate ino g p count) =
      of_file (bodies.Allocate ino g p count) ino (sv.allocate_held t h ino g p count) refl
      (λ f. under_lock (bodies.Allocate ino g p count) ino g modes.X (sv.allocate_pages t ino p count) refl f (allocated ino g p count))
  answers (bodies.Cut ino g p) =
      of_file (bodies.Cut ino g p) ino (sv.cut_held t h ino g p) refl
      (λ f. under_lock (bodies.Cut ino g p) ino g modes.X (sv.cut_from t ino p) refl f (IsDone bodies.Ack refl))
  answers (bodies.Name op) = IsOfName op (sv.name t h op).reply refl (name_replied t h op)
  answers b = IsSilent

-- A reply that no file has an inode tells the file of the request, and that it isn't there.
pub record Lacks (t : ServerTurn) (b : Body) (ino : ℕ) : Type 0 where
  pub file : file_in b ≡ Some ino
  pub none : sv.is_file t ino ≡ false

-- A remove that is refused since its client doesn't hold the file tells the file under that name.
pub record IsUnder (t : ServerTurn) (h : Header) (dir : ℕ) (name : List ℕ) (g : GrantNo) (ino : ℕ) : Type 0 where
  pub found : names.lookup t.state.stable.names dir name ≡ Ok ino
  pub file : sv.is_file t ino ≡ true
  pub unheld : sv.holds t h ino g modes.X ≡ false

module _ (t : ServerTurn) (h : Header) (b : Body) where
  abbrev Says : Option Body → Why → ℕ → ℕ → Type 0
  Says r w x n = r ≡ Some (bodies.Nack w x n)

  undone : (r : Body) (w : Why) (x n : ℕ) → is_refusal r ≡ false → Says (Some r) w x n → ⊥
  undone r w x n f q = clash (ap is_refusal (some_is q)) f

  lacks_so : (ino n : ℕ) (r : Option Body) → Answers t h b r → Says r why.NoFile ino n → Lacks t b ino
  lacks_so ino n _ IsSilent q = cc q
  lacks_so ino n _ (IsDone r f) q = absurd (undone r why.NoFile ino n f q)
  lacks_so ino n _ (IsNoFile i e f) q = subst (Lacks t b) (its q) (record { file = e; none = f })
    where
      its : Says (Some (bodies.Nack why.NoFile i 0)) why.NoFile ino n → i ≡ ino
      its q = cc
  lacks_so ino n _ (HoldsNot i g mode e f k) q = cc q
  lacks_so ino n _ (HasTooMany i mode e) q = cc q
  lacks_so ino n _ (HasNoSpace i g p count free wanted e f) q = cc q
  lacks_so ino n r (IsOfName op _ e k) q = absurd (named r k q)
    where
      named : (r : Option Body) → NameReplied t h op r → Says r why.NoFile ino n → ⊥
      named _ (IsNamed reply) q = cc q
      named _ (RemovesNot dir name g i is l f k) q = cc q

  removes_not_so : (dir : ℕ) (name : List ℕ) (g : GrantNo) (ino n : ℕ) → b ≡ bodies.Name (ops.Remove dir name g) → (r : Option Body) → Answers t h b r →
      Says r why.NotHolder ino n → IsUnder t h dir name g ino
  removes_not_so dir name g ino n is _ IsSilent q = cc q
  removes_not_so dir name g ino n is _ (IsDone r f) q = absurd (undone r why.NotHolder ino n f q)
  removes_not_so dir name g ino n is _ (IsNoFile i e f) q = cc q
  removes_not_so dir name g ino n is _ (HoldsNot i k mode e f u) q = absurd (none (sym (ap lock_in is) ∙ e))
    where
      none : ◌≡◌ {A = Option (ℕ × GrantNo × Mode)} None (Some (i, k, mode)) → ⊥
      none q = cc
  removes_not_so dir name g ino n is _ (HasTooMany i mode e) q = cc q
  removes_not_so dir name g ino n is _ (HasNoSpace i k p count free wanted e f) q = cc q
  removes_not_so dir name g ino n is r (IsOfName op _ e k) q = named r k q
    where
      its : op ≡ ops.Remove dir name g
      its = one (sym e ∙ is)
        where
          one : bodies.Name op ≡ bodies.Name (ops.Remove dir name g) → op ≡ ops.Remove dir name g
          one q = cc

      named : (r : Option Body) → NameReplied t h op r → Says r why.NotHolder ino n → IsUnder t h dir name g ino
      named _ (IsNamed reply) q = cc q
      named _ (RemovesNot d x y i o l f u) q = put (sym o ∙ its) (there q)
        where
          there : Says (Some (bodies.Nack why.NotHolder i y.0)) why.NotHolder ino n → i ≡ ino
          there q = cc

          put : ops.Remove d x y ≡ ops.Remove dir name g → i ≡ ino → IsUnder t h dir name g ino
          put same there =
              subst (IsUnder t h dir name g) there
              (record {
                found = ap (λ o. names.lookup t.state.stable.names (dir_of o) (name_of o)) (sym same) ∙ l;
                file = f;
                unheld = ap (λ o. sv.holds t h i (grant_of o) modes.X) (sym same) ∙ u;
              })
            where
              dir_of : NameOp → ℕ
              dir_of (ops.Remove d x y) = d
              dir_of o = 0

              name_of : NameOp → List ℕ
              name_of (ops.Remove d x y) = x
              name_of o = []

              grant_of : NameOp → GrantNo
              grant_of (ops.Remove d x y) = y
              grant_of o = g

module _ (t : ServerTurn) (now : Stamp) (h : Header) (b : Body) where
  abbrev reply : Option Body
  reply = (sv.rule t now h b).reply

  pub lacks : (ino n : ℕ) → reply ≡ Some (bodies.Nack why.NoFile ino n) → Lacks t b ino
  lacks ino n q = lacks_so t h b ino n reply (answers t now h b) q

  pub removes_not : (dir : ℕ) (name : List ℕ) (g : GrantNo) (ino n : ℕ) → b ≡ bodies.Name (ops.Remove dir name g) →
      reply ≡ Some (bodies.Nack why.NotHolder ino n) → IsUnder t h dir name g ino
  removes_not dir name g ino n is q = removes_not_so t h b dir name g ino n is reply (answers t now h b) q
