-- The words of a client for the file of an ask, for its server, and for a sync are those of the volume.
use Rattle.st_lemmas.proofs.Words
use Words.{◌≡◌, ℕ, Bool, true, false, ◌&&◌, ◌==◌, Some, None, refl, ap, ◌∙◌, if◌then◌else◌, eqb-true, Ask, FileId, ServerId}
use Words.asks
use Words.names
use Words.ClientState as cs
use Words.Keys.{same_server}
use Words.Tables.{and_true}
use Rattle.st_volume.specs.Volume as volume

pub file_words : (s : ServerId) (ino : ℕ) (ask : Ask) → (same_server (cs.server_of ask) s && cs.is_file ino (cs.file_of ask)) ≡ true →
    volume.file_of ask ≡ record { server = s; ino = ino }
unfolding cs.meant
file_words s ino ask e = by ask (and_true (same_server (cs.server_of ask) s) (cs.is_file ino (cs.file_of ask)) e)
  where
    its : (f : FileId) → (f.server.0 == s.0) ≡ true → (f.ino == ino) ≡ true → f ≡ record { server = s; ino = ino }
    its f p q =
        ap (λ n. record { server = record { 0 = n }; ino = f.ino }) (eqb-true f.server.0 s.0 p)
        ∙ ap (λ n. record { server = s; ino = n }) (eqb-true f.ino ino q)

    meant_is : (r : ServerId) (i : ℕ) (b : Bool) → (r.0 == s.0) ≡ true → cs.is_file ino (if b then None else Some i) ≡ true →
        ◌≡◌ {A = FileId} (record { server = r; ino = i }) (record { server = s; ino = ino })
    meant_is r i true p q = cc q
    meant_is r i false p q = its (record { server = r; ino = i }) p q

    by : (ask : Ask) → (same_server (cs.server_of ask) s ≡ true) × (cs.is_file ino (cs.file_of ask) ≡ true) →
        volume.file_of ask ≡ record { server = s; ino = ino }
    by (asks.Write f p bytes) z = its f z.0 z.1
    by (asks.Patch f p at bytes) z = its f z.0 z.1
    by (asks.Read f p) z = its f z.0 z.1
    by (asks.Sync f) z = its f z.0 z.1
    by (asks.Cut f p) z = its f z.0 z.1
    by (asks.Name r (names.Remove dir name i)) z = meant_is r i (i == 0) z.0 z.1
    by (asks.Name r (names.Lookup dir name)) z = cc z.1
    by (asks.Name r (names.Create dir name)) z = cc z.1
    by (asks.Name r (names.Mkdir dir name)) z = cc z.1
    by (asks.Name r (names.Rename dir name dir2 name2)) z = cc z.1
    by (asks.Name r (names.List dir after)) z = cc z.1

pub sync_words : (ask : Ask) → volume.is_sync ask ≡ cs.is_sync ask
sync_words (asks.Write f p bytes) = refl
sync_words (asks.Patch f p at bytes) = refl
sync_words (asks.Read f p) = refl
sync_words (asks.Sync f) = refl
sync_words (asks.Cut f p) = refl
sync_words (asks.Name r ask) = refl

pub server_words : (ask : Ask) → volume.server_of ask ≡ cs.server_of ask
server_words (asks.Write f p bytes) = refl
server_words (asks.Patch f p at bytes) = refl
server_words (asks.Read f p) = refl
server_words (asks.Sync f) = refl
server_words (asks.Cut f p) = refl
server_words (asks.Name s (names.Remove dir name ino)) = refl
server_words (asks.Name s (names.Lookup dir name)) = refl
server_words (asks.Name s (names.Create dir name)) = refl
server_words (asks.Name s (names.Mkdir dir name)) = refl
server_words (asks.Name s (names.Rename dir name dir2 name2)) = refl
server_words (asks.Name s (names.List dir after)) = refl
