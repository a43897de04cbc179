-- In every event the next inode number of each server stays or rises.
use Rattle.st_lemmas.proofs.Words
use Words.{◌≡◌, ◌≢◌, ◌⊎◌, ℕ, ◌≤◌, arith, Bool, true, false, List, Option, Some, None, Ok, Err, refl, sym, ap, ◌∙◌, subst, inl, inr, if◌then◌else◌, is_some, nat_lt}
use Words.{Body, EntryRefusal, Event, Header, NameEntry, Result, ServerId, ServerInput, Stamp}
use Words.nodes
use Words.Events as ev
use Words.Events.{WorldTurn, world_step}
use Words.Names as names
use Words.Names.{Names}
use Words.Server as sv
use Words.Server.{ServerNode, ServerState, ServerTurn, Stable, server_step}
use Words.World.{World, node_of, numbered, with_numbered}
use Rattle.std.specs.Option.{option_or}
use Rattle.st_rules.specs.declared.names.EntryRefusal.TheVariants as refusals
use Rattle.st_trace.specs.Server.Changing.{StableChange, Stays, Changes}
use Rattle.st_trace.specs.Server.Edits as edits
use Rattle.st_trace.specs.Server.Edits.{Ruled}
use Rattle.st_trace.proofs.Server.StableParts.{step_stable}
use Rattle.st_laws_leases.proofs.Dates.Leaving.{set_cases}
use Rattle.st_laws_requests.proofs.Replies.EachEvent.{NodeAfter, ServerLeft}
use Rattle.st_laws_volume.proofs.EventTakes.{event_takes}

-- What names do.
module _ (n : Names) where
  abbrev UpTo : Result names.Changed EntryRefusal → Type 0
  UpTo (Ok d) = n.next ≤ d.names.next
  UpTo (Err r) = Unit {0}

  added_up : (dir : ℕ) (name : List ℕ) (directory : Bool) →
      n.next ≤ (names.added n dir name directory).names.next
  unfolding names.added
  added_up dir name directory = omega arith

  add_up : (dir : ℕ) (name : List ℕ) (directory : Bool) → UpTo (names.add n dir name directory)
  unfolding names.add names.add_at names.add_beside names.add_new
  add_up dir name directory = go (names.place_refusal n dir name)
    where
      room : (b : Bool) →
          UpTo (if b then Ok (names.added n dir name directory) else Err refusals.TooMany)
      room true = added_up dir name directory
      room false = tt

      beside : (b : Bool) →
          UpTo (if b then Err refusals.Exists else names.add_new n dir name directory)
      beside true = tt
      beside false = room (nat_lt (names.live_inodes n) n.limit)

      go : (o : Option EntryRefusal) → UpTo (names.add_at n dir name directory o)
      go (Some r) = tt
      go None = beside (is_some (names.entry_at n dir name))

  without_same : (dir : ℕ) (name : List ℕ) (r : NameEntry) →
      n.next ≤ (names.without n dir name r).names.next
  unfolding names.without
  without_same dir name r = omega arith

  remove_up : (dir : ℕ) (name : List ℕ) → UpTo (names.remove n dir name)
  unfolding names.remove names.remove_at names.remove_found names.remove_entry
  remove_up dir name = go (names.place_refusal n dir name)
    where
      full : (r : NameEntry) (b : Bool) →
          UpTo (if b then Err refusals.NotEmpty else Ok (names.without n dir name r))
      full r true = tt
      full r false = without_same dir name r

      at : (o : Option NameEntry) → UpTo (names.remove_found n dir name o)
      at None = tt
      at (Some r) = full r (names.is_full n r)

      go : (o : Option EntryRefusal) → UpTo (names.remove_at n dir name o)
      go (Some r) = tt
      go None = at (names.entry_at n dir name)

  renamed_same : (dir : ℕ) (name : List ℕ) (dir2 : ℕ) (name2 : List ℕ) (r : NameEntry) →
      n.next ≤ (names.renamed n dir name dir2 name2 r).names.next
  unfolding names.renamed
  renamed_same dir name dir2 name2 r = omega arith

  rename_up : (dir : ℕ) (name : List ℕ) (dir2 : ℕ) (name2 : List ℕ) →
      UpTo (names.rename n dir name dir2 name2)
  unfolding names.rename names.rename_at names.rename_found names.rename_entry names.rename_free
  rename_up dir name dir2 name2 = go
      (option_or (names.place_refusal n dir name) (names.place_refusal n dir2 name2))
    where
      cycle : (e : NameEntry) (b : Bool) →
          UpTo (if b then Err refusals.Cycle else Ok (names.renamed n dir name dir2 name2 e))
      cycle e true = tt
      cycle e false = renamed_same dir name dir2 name2 e

      free : (e : NameEntry) (b : Bool) →
          UpTo (if b then Err refusals.Exists else names.rename_free n dir name dir2 name2 e)
      free e true = tt
      free e false = cycle e (names.comes_under_itself n dir2 e)

      at : (o : Option NameEntry) → UpTo (names.rename_found n dir name dir2 name2 o)
      at None = tt
      at (Some e) = free e (is_some (names.entry_at n dir2 name2))

      go : (o : Option EntryRefusal) → UpTo (names.rename_at n dir name dir2 name2 o)
      go (Some r) = tt
      go None = at (names.entry_at n dir name)

  changed : (r : Result names.Changed EntryRefusal) (d : names.Changed) → r ≡ Ok d → UpTo r →
      n.next ≤ d.names.next
  changed r d e h = subst UpTo e h

-- A step of a server.
ruled_up : (now : Stamp) (t : ServerTurn) (h : Header) (b : Body) (u : ServerTurn) (r : Body) →
    Ruled now t h b u r → t.state.stable.names.next ≤ u.state.stable.names.next
unfolding sv.cut_whole sv.cut_pages names.create names.mkdir
ruled_up now t h b _ r (edits.Tells _ _ x) = omega arith
ruled_up now t h b _ r (edits.Acquires j mode a f k g) = omega arith
ruled_up now t h b _ r (edits.Releases j g to x e f) = omega arith
ruled_up now t h b _ r (edits.Allocates j g p count x f q e) = omega arith
ruled_up now t h b _ r (edits.Cuts j g p f q) = omega arith
ruled_up now t h b _ r (edits.Creates dir x d e) =
    changed t.state.stable.names (names.add t.state.stable.names dir x false) d e
    (add_up t.state.stable.names dir x false)
ruled_up now t h b _ r (edits.MakesDir dir x d e) =
    changed t.state.stable.names (names.add t.state.stable.names dir x true) d e
    (add_up t.state.stable.names dir x true)
ruled_up now t h b _ r (edits.Renames dir x dir2 x2 d e) =
    changed t.state.stable.names (names.rename t.state.stable.names dir x dir2 x2) d e
    (rename_up t.state.stable.names dir x dir2 x2)
ruled_up now t h b _ r (edits.RemovesDir dir x g j d k f z e q) =
    changed t.state.stable.names (names.remove t.state.stable.names dir x) d e
    (remove_up t.state.stable.names dir x)
ruled_up now t h b _ r (edits.RemovesFile dir x g j d k f z e q) =
    changed t.state.stable.names (names.remove t.state.stable.names dir x) d e
    (remove_up t.state.stable.names dir x)

step_up : (n : ServerState) (now : Stamp) (i : ServerInput) →
    n.stable.names.next ≤ (server_step n now i).state.stable.names.next
step_up n now i = go (server_step n now i).state.stable (step_stable n now i)
  where
    go : (y : Stable) → StableChange n now i y → n.stable.names.next ≤ y.names.next
    go _ Stays = omega arith
    go _ (Changes m t u b s r) =
        subst (λ (y : Stable). y.names.next ≤ u.state.stable.names.next)
        s.asked.heard.came.begun.stable (ruled_up now t m.header m.body u b r)

-- What each server was before.
pub record CameFrom (w : World) (s : ServerId) (new : ServerNode) : Type 0 where
  pub old : ServerNode
  pub was : node_of w s ≡ Some old
  pub up : old.state.stable.names.next ≤ new.state.stable.names.next

abbrev pub AllUp : World → World → Type 0
AllUp w v = (s : ServerId) (new : ServerNode) → node_of v s ≡ Some new → CameFrom w s new

alike : (w v : World) → v.servers ≡ w.servers → AllUp w v
alike w v q s new at =
    record { old = new; was = ap (λ z. numbered z s.0) (sym q) ∙ at; up = omega arith }

placed : (w v : World) (s : ServerId) (old new : ServerNode) → node_of w s ≡ Some old →
    v.servers ≡ with_numbered s.0 new w.servers →
    old.state.stable.names.next ≤ new.state.stable.names.next → AllUp w v
placed w v s old new at q up y n there =
    go (set_cases w.servers s.0 y.0 old new n at (ap (λ z. numbered z y.0) (sym q) ∙ there))
  where
    go : ((y.0 ≡ s.0) × (n ≡ new)) ⊎ ((y.0 ≢ s.0) × (node_of w y ≡ Some n)) → CameFrom w y n
    go (inl z) =
        record {
          old = old;
          was = ap (numbered w.servers) z.0 ∙ at;
          up = subst (λ (x : ServerNode). old.state.stable.names.next ≤ x.state.stable.names.next)
              (sym z.1) up;
        }
    go (inr z) = record { old = n; was = z.1; up = omega arith }

pub event_up : (t : World) (e : Event) (sc : WorldTurn) → world_step t e ≡ Ok sc → AllUp t sc.world
unfolding ev.crashes_client ev.marks ev.starts_client ev.crashes_server sv.crash ev.starts_server sv.start sv.begin_epoch
event_up t e sc f =
    event_takes t e (AllUp t) (λ v cs ss ms. alike t v ss)
    (λ v cs ss c i site old same at k last l. alike t last (l.servers ∙ ss))
    (λ s i node at run b l. placed t (ServerLeft t s i node).world s node (NodeAfter t s i node) at
    l.servers (step_up node.state (Words.World.clock_of (ev.counted t) (nodes.Server s)) i))
    (λ c site at. alike t (ev.crashes_client (ev.counted t) c (Some site)).world refl)
    (λ c site at. alike t (ev.starts_client (ev.counted t) c (Some site)) refl)
    (λ s node at. placed t (ev.crashes_server (ev.counted t) s (Some node)) s node
    (sv.crash_node node) at refl (omega arith))
    (λ s node at. placed t (ev.starts_server (ev.counted t) s (Some node)) s node
    (sv.start_node node (Words.World.clock_of (ev.counted t) (nodes.Server s))) at refl
    (omega arith)) sc f
