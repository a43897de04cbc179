-- What always holds of a client: all that it keeps and may send later is in the ranges of messages.
use Rattle.std.specs.Prelude.{◌≡◌, ℕ, ◌≤◌, Bool, true, false, ◌&&◌, nat_le, nat_lt, List, [], ◌∷◌, length, Option, Some, None, ⊤}
use Rattle.std.specs.List.{list_all}
use Rattle.st_messages.specs.declared.kind.Need.TheVariants.{Positive}
use Rattle.st_messages.specs.declared.message.Body.{Body}
use Rattle.st_messages.specs.declared.message.Body.TheVariants as bodies
use Rattle.st_messages.specs.Ranges.{is_ask, is_body, is_grant, is_ino, is_lock_row, is_mode}
use Rattle.st_messages.specs.Kinds.{allows, between}
use Rattle.st_rules.specs.declared.client.DemandedFile.{DemandedFile}
use Rattle.st_rules.specs.declared.client.HeldLock.{HeldLock}
use Rattle.st_rules.specs.declared.client.Operation.{Operation}
use Rattle.st_rules.specs.declared.client.Release.{Release}
use Rattle.st_rules.specs.declared.client.Request.{Request}
use Rattle.st_rules.specs.ClientLocks.{LockCache, lock_in_list}
use Rattle.st_rules.specs.ClientState.{Association, ClientSession, ClientState}

-- a request of a session
abbrev pub is_asking : Body → Bool
is_asking bodies.KeepAlive = true
is_asking (bodies.Acquire ino mode) = true
is_asking (bodies.Released ino g to) = true
is_asking (bodies.Map ino g p) = true
is_asking (bodies.Allocate ino g p count) = true
is_asking (bodies.Cut ino g from) = true
is_asking (bodies.Name op) = true
is_asking (bodies.Reassert rows) = true
is_asking body = false

-- an outstanding request: its number was given, and its fields are in their ranges
abbrev pub is_sound_request : ℕ → Request → Bool
is_sound_request next q = (nat_le 1 q.number && nat_lt q.number next) && (is_asking q.body && is_body q.body)

-- if there is one
abbrev pub is_sound_asked : ℕ → Option Request → Bool
is_sound_asked next None = true
is_sound_asked next (Some q) = is_sound_request next q

-- a lock that can be reasserted
abbrev pub is_sound_lock : HeldLock → Bool
is_sound_lock l = is_lock_row 1 (lock_in_list l)

-- a demand to none or to shared
abbrev pub is_sound_demand : DemandedFile → Bool
is_sound_demand d = is_mode 0 1 d.to

-- a release that can be sent
abbrev pub is_sound_release : Release → Bool
is_sound_release r = is_ino r.ino && (is_grant r.g && is_mode 0 1 r.to)

-- an operation whose ask has every field in its range
abbrev pub is_sound_operation : Operation → Bool
is_sound_operation o = is_ask o.ask

-- the locks of a session: no more than the limit, which is at most what a reassertion may have
abbrev pub AreSoundLocks : LockCache → Type 0
AreSoundLocks c =
    record {
      rows : list_all is_sound_lock c.rows ≡ true;
      few : length c.rows ≤ c.limit;
      limit : c.limit ≤ 1024;
      demanded : list_all is_sound_demand c.demanded ≡ true;
    }

-- a session
abbrev pub IsSoundSession : ClientSession → Type 0
IsSoundSession s =
    record {
      epoch : allows Positive s.epoch.0 ≡ true;
      next : 1 ≤ s.requests.next;
      asked : is_sound_asked s.requests.next s.requests.asked ≡ true;
      locks : AreSoundLocks s.locks;
      releases : list_all is_sound_release s.releases ≡ true;
    }

-- if there is one
abbrev pub IsSoundIn : Option ClientSession → Type 0
IsSoundIn None = ⊤
IsSoundIn (Some s) = IsSoundSession s

-- an association with one of the servers
abbrev pub IsSoundAt : Association → Type 0
IsSoundAt a = record { server : between 1 4 a.server.0 ≡ true; life : 1 ≤ a.life.0; session : IsSoundIn a.session }

-- each of these
abbrev pub AreSound : List Association → Type 0
AreSound [] = ⊤
AreSound (a ∷ more) = IsSoundAt a × AreSound more

-- A client, with what it has of each server and its pending operations.
pub record IsSound (c : ClientState) : Type 0 where
  pub client : between 1 16 c.id.0 ≡ true
  pub associations : AreSound c.associations
  pub operations : list_all is_sound_operation c.operations ≡ true
