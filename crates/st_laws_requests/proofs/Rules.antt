-- The rule of a request leaves the sessions, and whatever other parts of the state and notes leave.
use Rattle.st_lemmas.proofs.Words
use Words.{◌≡◌, refl, Body, Header, Note, Stamp}
use Words.Server as sv
use Words.Server.{ServerState, ServerTurn, note}
use Rattle.st_trace.specs.Server.Edits.{Ruled, Tells, Acquires, Releases, Allocates, Cuts, Creates, MakesDir, Renames, RemovesDir, RemovesFile}

module _ (O : ServerTurn → Type 0)
    (o_state : (t : ServerTurn) (x : ServerState) → x.id ≡ t.state.id → x.stable.epoch ≡ t.state.stable.epoch → x.sessions ≡ t.state.sessions → O t →
    O (record t { state = x }))
    (o_note : (t : ServerTurn) (x : Note) → O t → O (note t x)) where
  pub ruled : (now : Stamp) (t : ServerTurn) (h : Header) (m : Body) (u : ServerTurn) (b : Body) → Ruled now t h m u b → O t →
      O u × (u.state.sessions ≡ t.state.sessions)
  unfolding sv.cut_whole sv.cut_pages
  ruled now t h m u b (Tells _ _ r) o = (o, refl)
  ruled now t h m u b (Acquires ino mode a f k g) o = (o_state t _ refl refl refl o, refl)
  ruled now t h m u b (Releases ino g to r e f) o = (o_state t _ refl refl refl o, refl)
  ruled now t h m u b (Allocates ino g p count x f q e) o = (o_state t _ refl refl refl o, refl)
  ruled now t h m u b (Cuts ino g p f q) o = (o_note _ _ (o_state t _ refl refl refl o), refl)
  ruled now t h m u b (Creates dir x d e) o = (o_state t _ refl refl refl o, refl)
  ruled now t h m u b (MakesDir dir x d e) o = (o_state t _ refl refl refl o, refl)
  ruled now t h m u b (Renames dir x dir2 x2 d e) o = (o_state t _ refl refl refl o, refl)
  ruled now t h m u b (RemovesDir dir x g ino d l f z e q) o = (o_state t _ refl refl refl o, refl)
  ruled now t h m u b (RemovesFile dir x g ino d l f z e q) o = (o_note _ _ (o_state t _ refl refl refl o), refl)
