-- What a server replies to a request for a name: what names say, or that the client doesn't hold the file that it should remove.
use Rattle.st_lemmas.proofs.Words
use Words.{◌≡◌, ℕ, ◌==◌, true, false, List, Option, Some, Ok, Err, refl, Result, Body, EntryRefusal, GrantNo, Header, NameOp, NameReply, NameRow}
use Words.bodies
use Words.modes
use Words.ops
use Words.replies
use Words.why
use Words.Names as names
use Words.Names.{Names}
use Words.Server as sv
use Words.Server.{ServerTurn}
use Words.Tables.{cond_either}
use Rattle.st_rules.specs.declared.names.EntryRefusal.TheVariants.{IsDir}

pub data NameReplied (t : ServerTurn) (h : Header) (op : NameOp) : Option Body → Type 0 where
  IsNamed : (r : NameReply) → NameReplied t h op (Some (bodies.Named r))
  RemovesNot : (dir : ℕ) (name : List ℕ) (g : GrantNo) (ino : ℕ) → op ≡ ops.Remove dir name g → names.lookup t.state.stable.names dir name ≡ Ok ino →
      sv.is_file t ino ≡ true → sv.holds t h ino g modes.X ≡ false → NameReplied t h op (Some (bodies.Nack why.NotHolder ino g.0))

module _ (t : ServerTurn) (h : Header) where
  abbrev n : Names
  n = t.state.stable.names

  module _ (op : NameOp) where
    abbrev So : sv.Replied → Type 0
    So a = NameReplied t h op a.reply

    refused : (r : EntryRefusal) → So (sv.name_refused t r)
    unfolding sv.name_refused
    refused r = IsNamed (replies.Refused (names.code_of r))

    found : (r : Result ℕ EntryRefusal) → So (sv.name_found t r)
    unfolding sv.name_found
    found (Ok ino) = IsNamed (replies.Ino ino)
    found (Err r) = refused r

    changed : (r : Result names.Changed EntryRefusal) → So (sv.name_changed t r)
    unfolding sv.name_changed
    changed (Ok d) = IsNamed (replies.Ino d.ino)
    changed (Err r) = refused r

    listed : (r : Result (List NameRow) EntryRefusal) → So (sv.names_listed t r)
    unfolding sv.names_listed
    listed (Ok rows) = IsNamed (replies.Listed rows)
    listed (Err r) = refused r

    taken_out : (r : Result names.Changed EntryRefusal) → So (sv.remove_by t r)
    unfolding sv.remove_by
    taken_out (Ok d) = IsNamed (replies.Ino d.ino)
    taken_out (Err r) = refused r

    removed : (dir : ℕ) (name : List ℕ) (g : GrantNo) → op ≡ ops.Remove dir name g → (r : Result ℕ EntryRefusal) → names.lookup n dir name ≡ r →
        So (sv.remove_found t h dir name g r)
    unfolding sv.remove_found sv.remove_ino sv.remove_file sv.remove_dir sv.not_holder
    removed dir name g is (Err r) l = refused r
    removed dir name g is (Ok ino) l =
        cond_either So (sv.is_file t ino) (sv.remove_file t h dir name g ino) (sv.remove_dir t dir name g)
        (λ f. cond_either So (sv.holds t h ino g modes.X) (sv.remove_by t (names.remove n dir name)) (sv.not_holder t ino g)
        (λ q. taken_out (names.remove n dir name)) (λ q. RemovesNot dir name g ino is l f q))
        (λ f. cond_either So (g.0 == 0) (sv.name_changed t (names.remove n dir name)) (sv.name_refused t IsDir)
        (λ q. changed (names.remove n dir name)) (λ q. refused IsDir))

  pub name_replied : (op : NameOp) → NameReplied t h op (sv.name t h op).reply
  unfolding sv.name sv.remove
  name_replied (ops.Lookup dir name) = found (ops.Lookup dir name) (names.lookup n dir name)
  name_replied (ops.Create dir name) = changed (ops.Create dir name) (names.create n dir name)
  name_replied (ops.Mkdir dir name) = changed (ops.Mkdir dir name) (names.mkdir n dir name)
  name_replied (ops.Remove dir name g) = removed (ops.Remove dir name g) dir name g refl (names.lookup n dir name) refl
  name_replied (ops.Rename dir name dir2 name2) = changed (ops.Rename dir name dir2 name2) (names.rename n dir name dir2 name2)
  name_replied (ops.List dir after) = listed (ops.List dir after) (names.list n dir after)
