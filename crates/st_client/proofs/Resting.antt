-- A step begins only if counters have room, and what it leaves rests.
use Rattle.st_lemmas.proofs.Words
use Words.{◌≡◌, ℕ, ◌<◌, ◌^◌, Bool, true, List, [], ◌∷◌, ◌++◌, map, refl, sym, ◌∙◌, arith, Option, Some, None, nat_lt, IsTrue, ◌↔◌, list_all, and_parts}
use Words.{and_from, lt-ltb, ltb-true, Config, ClientId, Life, ServerId, Output}
use Words.Client.{association_of}
use Words.ClientInvariants.{is_below}
use Words.ClientState.{Association, ClientSession, ClientState}
use Rattle.st_client_association.specs.Associations.{ClientAssociation, IsCounted, RequestsBelow, has_room_at, may_ask}
use Rattle.st_client_association.specs.Turns.{most_of}
use Rattle.st_client.specs.Machines.{AreIn, IsMachine, here_of}
use Rattle.st_client.specs.Nodes.{AreGiven}
use Rattle.st_client.specs.Room.{HasRoom, has_room}

asks : (s : Option ClientSession) → may_ask s ≡ true → RequestsBelow (most_of []) s
asks None e = tt
asks (Some s) e = let n : s.requests.next < 2 ^ 62 = ltb-true s.requests.next (2 ^ 62) e in omega (arith, n)

counted : (next : ℕ) (a : Association) → next < 2 ^ 62 → list_all (is_below next) a.store.commands ≡ true → has_room_at a ≡ true → IsCounted a next []
counted next a n g r =
    let p = and_parts (nat_lt a.store.pages.next_version (2 ^ 62)) _ r in
    let q = and_parts (nat_lt a.life.0 (2 ^ 62)) (may_ask a.session) p.1 in
    let v : a.store.pages.next_version < 2 ^ 62 = ltb-true a.store.pages.next_version (2 ^ 62) p.0 in
    let l : a.life.0 < 2 ^ 62 = ltb-true a.life.0 (2 ^ 62) q.0 in
    record { given = g; commands = omega (arith, n); versions = omega (arith, v); lives = omega (arith, l); requests = asks a.session q.1 }

all_in : (id : ClientId) (config : Config) (next : ℕ) (xs : List ClientAssociation) → next < 2 ^ 62 → AreGiven id config next xs → list_all has_room_at (map here_of xs) ≡ true → AreIn id config next [] xs
all_in id config next [] n g r = tt
all_in id config next (a ∷ xs) n g r =
    let p = and_parts (has_room_at a.here) (list_all has_room_at (map here_of xs)) r in
    (record { id = g.0.id; config = g.0.config; counted = counted next a.here n g.0.given p.0 }, all_in id config next xs n g.1 p.1)

-- a step begins
pub begins : (id : ClientId) (config : Config) (next : ℕ) (xs : List ClientAssociation) (out : List Output) → out ≡ [] → next < 2 ^ 62 → list_all has_room_at (map here_of xs) ≡ true → AreGiven id config next xs → IsMachine id config next out xs
begins id config next xs out e n r g = rw e (record { commands = omega (arith, n); each = all_in id config next xs n g r })

-- a step rests
pub rests : (id : ClientId) (config : Config) (next : ℕ) (out : List Output) (xs : List ClientAssociation) → AreIn id config next out xs → AreGiven id config next xs
rests id config next out [] i = tt
rests id config next out (a ∷ xs) i = (record { id = i.0.id; config = i.0.config; given = i.0.counted.given }, rests id config next out xs i.1)

-- one more association, of which the client has nothing
pub given_last : (id : ClientId) (config : Config) (next : ℕ) (xs ys : List ClientAssociation) (a : ClientAssociation) (life : Life) (server : ServerId) → ys ≡ xs ++ a ∷ [] →
    a ≡ record { id = id; config = config; here = association_of life server } → AreGiven id config next xs → AreGiven id config next ys
given_last id config next xs ys a life server e f g = rw e (last xs g)
  where
    last : (zs : List ClientAssociation) → AreGiven id config next zs → AreGiven id config next (zs ++ a ∷ [])
    last [] h = (rw f (record { id = refl; config = refl; given = refl }), tt)
    last (z ∷ zs) h = (h.0, last zs h.1)

-- the test of the counters
room_from : (c : ClientState) → has_room c ≡ true → HasRoom c
room_from c e =
    let p = and_parts (nat_lt c.next_command (2 ^ 62)) (list_all has_room_at c.associations) e in
    record { commands = ltb-true c.next_command (2 ^ 62) p.0; each = p.1 }

room_to : (c : ClientState) → HasRoom c → has_room c ≡ true
room_to c r = and_from (nat_lt c.next_command (2 ^ 62)) (list_all has_room_at c.associations) (lt-ltb c.next_command (2 ^ 62) r.commands) r.each

pub room_is : (c : ClientState) (b : Bool) → b ≡ has_room c → IsTrue b ↔ HasRoom c
room_is c b e = ((λ f. room_from c (sym e ∙ f)), (λ r. e ∙ room_to c r))
