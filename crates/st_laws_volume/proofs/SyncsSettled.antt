-- At an answer to a sync that owes nothing of its file: each entry of the file by the client is hard, or the client crashed since or was told.
use Rattle.st_lemmas.proofs.Words
use Words.{◌≡◌, ◌≤◌, ℕ, suc, ◌⊎◌, Bool, true, false, not, ◌&&◌, ◌||◌, ◌==◌, List, [], ◌∷◌, Option, Some, None, refl, sym, ap, ◌∙◌, subst, inl, inr, arith}
use Words.{length, list_all, list_any, slice_get, ClientId, FileId, Fate, LogEntry, LostPage, Observation}
use Words.changes
use Words.fates
use Words.ClientPages.{is_lost_of}
use Words.Events.{changes_page, is_change}
use Words.FlatLog as log
use Words.Lists.{Has}
use Words.Lookups.{or_left, or_right, some_is}
use Words.Members.{some_member_passes}
use Words.Numbers.{get_below, get_there}
use Words.Safety.{Step}
use Words.Tables.{and_both, and_true, some_passes}
use Words.Truth.{clash, client_is, file_is}
use Rattle.st_rules.specs.declared.log.Change.{Change}
use Rattle.st_promises.specs.Losses.{is_of_file}
use Rattle.st_laws_volume.specs.Logs.{IsSame, ask_of as ask_at, fate_of}
use Rattle.st_laws_volume.specs.LossMarks.{IsMet}
use Rattle.st_laws_volume.proofs.LogEntries.{AreFirst}
use Rattle.st_laws_volume.proofs.LossLines.{LateAt, MetAt, RowsAt, first_at}
use Rattle.st_volume.specs.Pages.{Entry, is_by, is_by_on, is_dropped, is_on, is_open, is_settled}
use Rattle.st_volume.specs.Volume.{Volume}

-- by the places of a list
pub all_at : {A : Type 0} (p : A → Bool) (xs : List A) → ((n : ℕ) (x : A) → slice_get xs n ≡ Some x → p x ≡ true) → list_all p xs ≡ true
all_at p [] h = refl
all_at p (x ∷ xs) h = and_both (p x) (list_all p xs) (h 0 x refl) (all_at p xs (λ n y q. h (suc n) y q))

-- An entry of a client and a file.
module _ (c : ClientId) (file : FileId) where
  pub record IsOn (o : LogEntry) : Type 0 where
    pub change : is_change o ≡ true
    pub client : c ≡ o.of.client
    pub its_file : file ≡ o.of.file

  pub is_on_it : (o : LogEntry) (f : Entry) → IsSame o f → is_by_on c file f ≡ true → IsOn o
  is_on_it o f k q =
      let b = and_true (is_by c f) (is_on file f.what) q in
      let z = at_file o.change (sym (ap (is_on file) k.what) ∙ b.1) in
      record { change = z.0; client = client_is c f.client b.0 ∙ k.client z.0; its_file = z.1 }
    where
      at_file : (ch : Change) → is_on file (ask_at o.of.file o.of.page ch) ≡ true → (changes_page ch ≡ true) × (file ≡ o.of.file)
      at_file (changes.Write bytes) z = (refl, file_is file o.of.file z)
      at_file (changes.Patch at bytes) z = (refl, file_is file o.of.file z)
      at_file changes.Cut z = cc z

-- The lines of an event before the answer, and the logs at that line.
module _ (past : List Step) (x : Step) (done : List Observation) (es : List LogEntry) (u : Volume) (first : AreFirst es u.log) (told : length u.log ≤ length es)
    (met : MetAt past x done es u) (c : ClientId) (file : FileId) where
  pub record Here (n : ℕ) (f : Entry) : Type 0 where
    pub o : LogEntry
    pub at : slice_get es n ≡ Some o
    pub same : IsSame o f

  pub here : (n : ℕ) (f : Entry) → slice_get u.log n ≡ Some f → Here n f
  here n f j =
      let o = get_there es n (let l = get_below u.log n f j in omega (arith, l, told)) in
      let y = first_at es u.log first n o.0 o.1 in
      record { o = o.0; at = o.1; same = subst (IsSame o.0) (some_is (sym y.1 ∙ j)) y.2 }

  -- its page is owed: the file then has rows
  pub owed_row : (o : LogEntry) → IsOn c file o → list_any (is_lost_of o.of.file.ino o.of.page) (RowsAt past x done o.of.client o.of.file.server) ≡ true →
      (z : LostPage) × Has z (RowsAt past x done c file.server) × (is_lost_of o.of.file.ino o.of.page z ≡ true)
  owed_row o k q =
      let z = some_member_passes (is_lost_of o.of.file.ino o.of.page) (RowsAt past x done o.of.client o.of.file.server) q in
      (z.0, subst (Has z.0) rows_is z.1, z.2)
    where
      rows_is : RowsAt past x done o.of.client o.of.file.server ≡ RowsAt past x done c file.server
      rows_is =
          ap (λ d. RowsAt past x done d o.of.file.server) (sym k.client) ∙ ap (λ (f : FileId). RowsAt past x done c f.server) (sym k.its_file)

  module _ (none : list_any (is_of_file file.ino) (RowsAt past x done c file.server) ≡ false)
      (pending : (n : ℕ) (o : LogEntry) (f : Entry) → slice_get es n ≡ Some o → slice_get u.log n ≡ Some f → IsOn c file o → o.fate ≡ fates.Pending →
      f.crashed ≡ true) (late : (o : LogEntry) → IsOn c file o → LateAt past x done o.of → ⊥) where
    owed_never : (o : LogEntry) → IsOn c file o → list_any (is_lost_of o.of.file.ino o.of.page) (RowsAt past x done o.of.client o.of.file.server) ≡ true → ⊥
    owed_never o k q =
        let r = owed_row o k q in
        clash
        (some_passes (is_of_file file.ino) (RowsAt past x done c file.server) r.0 r.1
        (ap (λ (f : FileId). r.0.ino == f.ino) k.its_file ∙ (and_true (r.0.ino == o.of.file.ino) (r.0.page.0 == o.of.page.0) r.2).0))
        none

    settled_by : (o : LogEntry) (f : Entry) → IsSame o f → (fate : Fate) → o.fate ≡ fate → (log.is_pending fate ≡ true → f.crashed ≡ true) →
        (log.counts fate ≡ false → (f.crashed ≡ true) ⊎ (f.told ≡ true)) → is_settled f ≡ true
    settled_by o f k fates.Hard q p g =
        or_right f.crashed _ (ap (λ z. not (is_open z || (is_dropped z && not f.told))) (k.fate ∙ ap fate_of q))
    settled_by o f k fates.Pending q p g = or_left f.crashed _ (p refl)
    settled_by o f k (fates.Gone cause) q p g = go (g refl)
      where
        go : (f.crashed ≡ true) ⊎ (f.told ≡ true) → is_settled f ≡ true
        go (inl z) = or_left f.crashed _ z
        go (inr z) =
            or_right f.crashed _
            (ap (λ y. not (is_open y || (is_dropped y && not f.told))) (k.fate ∙ ap fate_of q)
            ∙ ap (λ y. not (false || (true && not y))) z)

    gone : (n : ℕ) (o : LogEntry) (f : Entry) → IsOn c file o → IsMet (RowsAt past x done) (LateAt past x done) o.of f → (f.crashed ≡ true) ⊎ (f.told ≡ true)
    gone n o f k (inl z) = inl z
    gone n o f k (inr (inl z)) = inr z
    gone n o f k (inr (inr (inl z))) = absurd (owed_never o k z)
    gone n o f k (inr (inr (inr z))) = absurd (late o k z)

    pending_is : (z : Fate) → log.is_pending z ≡ true → z ≡ fates.Pending
    pending_is fates.Pending z = refl
    pending_is fates.Hard z = cc z
    pending_is (fates.Gone d) z = cc z

    entry_settled : (n : ℕ) (f : Entry) → slice_get u.log n ≡ Some f → (is_settled f || not (is_by_on c file f)) ≡ true
    entry_settled n f j = go (is_by_on c file f) refl
      where
        y : Here n f
        y = here n f j

        go : (b : Bool) → is_by_on c file f ≡ b → (is_settled f || not b) ≡ true
        go false q = or_right (is_settled f) true refl
        go true q =
            let k = is_on_it c file y.o f y.same q in
            or_left (is_settled f) false
            (settled_by y.o f y.same y.o.fate refl
            (λ p. pending n y.o f y.at j k (pending_is y.o.fate p))
            (λ g. gone n y.o f k (met n y.o f y.at j k.change g)))

    pub all_settled : list_all (λ (f : Entry). is_settled f || not (is_by_on c file f)) u.log ≡ true
    all_settled = all_at (λ (f : Entry). is_settled f || not (is_by_on c file f)) u.log entry_settled
