-- Each request for a name gets a reply that counts for it.
use Rattle.st_lemmas.proofs.Words
use Words.{ℕ, List, ◌==◌, refl, inl, inr, Result, Ok, Err, GrantNo, Stamp, NameRow, Header, NameOp, EntryRefusal}
use Words.modes
use Words.bodies as bd
use Words.ops.{Lookup, Create, Mkdir, Remove, Rename, List as ListFrom}
use Words.Names as names
use Words.Server as sv
use Words.Server.{ServerTurn}
use Words.Keys.{page_no}
use Words.notes
use Words.Tables.{cond_either}
use Rattle.st_rules.specs.declared.names.EntryRefusal.TheVariants.{IsDir}
use Rattle.st_laws_healthy.proofs.Replies.{GetsReply}

module _ (now : Stamp) (h : Header) where
  gets_reply_changed : (t : ServerTurn) (op : NameOp) (r : Result names.Changed EntryRefusal) → GetsReply now h t (bd.Name op) (sv.name_changed t r)
  unfolding sv.name_changed sv.name_refused
  gets_reply_changed t op (Ok d) = record { counts = refl; id = refl; epoch = refl; sessions = refl; out = inl refl }
  gets_reply_changed t op (Err r) = record { counts = refl; id = refl; epoch = refl; sessions = refl; out = inl refl }

  gets_reply_found : (t : ServerTurn) (op : NameOp) (r : Result ℕ EntryRefusal) → GetsReply now h t (bd.Name op) (sv.name_found t r)
  unfolding sv.name_found sv.name_refused
  gets_reply_found t op (Ok d) = record { counts = refl; id = refl; epoch = refl; sessions = refl; out = inl refl }
  gets_reply_found t op (Err r) = record { counts = refl; id = refl; epoch = refl; sessions = refl; out = inl refl }

  gets_reply_listed : (t : ServerTurn) (op : NameOp) (r : Result (List NameRow) EntryRefusal) → GetsReply now h t (bd.Name op) (sv.names_listed t r)
  unfolding sv.names_listed sv.name_refused
  gets_reply_listed t op (Ok d) = record { counts = refl; id = refl; epoch = refl; sessions = refl; out = inl refl }
  gets_reply_listed t op (Err r) = record { counts = refl; id = refl; epoch = refl; sessions = refl; out = inl refl }

  gets_reply_removed : (t : ServerTurn) (op : NameOp) (r : Result names.Changed EntryRefusal) → GetsReply now h t (bd.Name op) (sv.remove_by t r)
  unfolding sv.remove_by sv.name_refused sv.cut_whole sv.cut_pages
  gets_reply_removed t op (Ok d) =
      record { counts = refl; id = refl; epoch = refl; sessions = refl; out = inr (notes.CutDone (sv.file t d.ino) (page_no 0), refl) }
  gets_reply_removed t op (Err r) = record { counts = refl; id = refl; epoch = refl; sessions = refl; out = inl refl }

  gets_reply_remove : (t : ServerTurn) (op : NameOp) (dir : ℕ) (name : List ℕ) (g : GrantNo) → GetsReply now h t (bd.Name op) (sv.remove t h dir name g)
  unfolding sv.remove sv.remove_found sv.remove_ino sv.remove_file sv.remove_dir sv.not_holder sv.name_refused
  gets_reply_remove t op dir name g = go (names.lookup t.state.stable.names dir name)
    where
      go : (r : Result ℕ EntryRefusal) → GetsReply now h t (bd.Name op) (sv.remove_found t h dir name g r)
      go (Ok ino) =
          cond_either (GetsReply now h t (bd.Name op)) (sv.is_file t ino) (sv.remove_file t h dir name g ino) (sv.remove_dir t dir name g)
          (λ e. cond_either (GetsReply now h t (bd.Name op)) (sv.holds t h ino g modes.X) (sv.remove_by t (names.remove t.state.stable.names dir name))
          (sv.not_holder t ino g)
          (λ e. gets_reply_removed t op (names.remove t.state.stable.names dir name)) (λ e. record {
            counts = refl;
            id = refl;
            epoch = refl;
            sessions = refl;
            out = inl
                refl;
          }))
          (λ e. cond_either (GetsReply now h t (bd.Name op)) (g.0 == 0) (sv.name_changed t (names.remove t.state.stable.names dir name))
          (sv.name_refused t IsDir)
          (λ e. gets_reply_changed t op (names.remove t.state.stable.names dir name)) (λ e. record {
            counts = refl;
            id = refl;
            epoch = refl;
            sessions = refl;
            out = inl
                refl;
          }))
      go (Err r) = record { counts = refl; id = refl; epoch = refl; sessions = refl; out = inl refl }

  pub gets_reply_name : (t : ServerTurn) (op : NameOp) → GetsReply now h t (bd.Name op) (sv.name t h op)
  unfolding sv.name
  gets_reply_name t (Lookup dir n) = gets_reply_found t (Lookup dir n) (names.lookup t.state.stable.names dir n)
  gets_reply_name t (Create dir n) = gets_reply_changed t (Create dir n) (names.create t.state.stable.names dir n)
  gets_reply_name t (Mkdir dir n) = gets_reply_changed t (Mkdir dir n) (names.mkdir t.state.stable.names dir n)
  gets_reply_name t (Remove dir n g) = gets_reply_remove t (Remove dir n g) dir n g
  gets_reply_name t (Rename dir n dir2 n2) = gets_reply_changed t (Rename dir n dir2 n2) (names.rename t.state.stable.names dir n dir2 n2)
  gets_reply_name t (ListFrom dir after) = gets_reply_listed t (ListFrom dir after) (names.list t.state.stable.names dir after)
