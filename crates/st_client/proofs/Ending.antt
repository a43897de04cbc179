-- The ends of the leases at all servers, found from the last association to the first.
use Rattle.st_lemmas.proofs.Words
use Words.{◌≡◌, ℕ, zero, suc, ◌+◌, ◌-◌, ◌<◌, ◌≤◌, ◌≢◌, ◌⊎◌, Bool, true, false, List, [], ◌∷◌, length, map, drop, set, get_or, refl, sym, ap, subst, ◌∙◌, arith}
use Words.{Option, Some, None, ◌==◌, cond, find, nat_le, list_all, and_parts, leb-true, length-map, Config, ClientId, ServerId, Stamp}
use Words.Tables.{and_true}
use Words.Kinds.{between}
use Words.Client.{lease_at}
use Words.ClientLease.{end_at}
use Words.ClientState.{Association, is_at}
use Words.Keys.{same_server}
use Rattle.std.proofs.lemmas.List.{drop_more}
use Rattle.std.proofs.Math.ListN.{get_or-map}
use Rattle.st_client_association.specs.Associations.{ClientAssociation}
use Rattle.st_client.specs.declared.ends.LeaseEnds.{LeaseEnds}
use Rattle.st_client.specs.Ends.{end_in}
use Rattle.st_client.specs.Machines.{here_of}
use Rattle.st_client.specs.Nodes.{AreGiven, is_server, server_at}

-- these are the ends of the leases at these associations
abbrev pub AreEnds : Config → List Association → LeaseEnds → Type 0
AreEnds k xs e = (s : ServerId) → end_in e s ≡ end_at k (lease_at (find (is_at s) xs))

pub no_ends : (k : Config) → AreEnds k [] (record { ends = None ∷ None ∷ None ∷ None ∷ [] })
no_ends k s = at s.0
  where
    at : (n : ℕ) → end_in (record { ends = None ∷ None ∷ None ∷ None ∷ [] }) (record { 0 = n }) ≡ None
    at zero = refl
    at (suc zero) = refl
    at (suc (suc zero)) = refl
    at (suc (suc (suc zero))) = refl
    at (suc (suc (suc (suc zero)))) = refl
    at (suc (suc (suc (suc (suc m))))) = refl

-- one association more, in front
pub more_ends : (k : Config) (xs : List Association) (a : Association) (e f : LeaseEnds) →
    ((s : ServerId) → end_in f s ≡ cond (same_server a.server s) (end_at k (lease_at (Some a))) (end_in e s)) → AreEnds k xs e → AreEnds k (a ∷ xs) f
more_ends k xs a e f p h s = p s ∙ by (same_server a.server s)
  where
    by : (b : Bool) → cond b (end_at k (lease_at (Some a))) (end_in e s) ≡ end_at k (lease_at (cond b (Some a) (find (is_at s) xs)))
    by true = refl
    by false = h s

-- the association at a place: its server, its settings, and those from there on
server_there : (items : List ClientAssociation) (i : ℕ) (a : ClientAssociation) → i < length items → a ≡ get_or items i a → list_all is_server (map server_at (map here_of items)) ≡ true →
    is_server a.here.server ≡ true
server_there [] i a l e k = absurd (omega (arith, l))
server_there (x ∷ items) zero a l e k = ap (λ (b : ClientAssociation). is_server b.here.server) e ∙ (and_true (is_server x.here.server) (list_all is_server (map server_at (map here_of items))) k).0
server_there (x ∷ items) (suc i) a l e k =
    let m : i < length items = omega (arith, l) in server_there items i a m e (and_true (is_server x.here.server) (list_all is_server (map server_at (map here_of items))) k).1

config_there : (id : ClientId) (config : Config) (n : ℕ) (items : List ClientAssociation) (i : ℕ) (a : ClientAssociation) → i < length items → a ≡ get_or items i a → AreGiven id config n items → a.config ≡ config
config_there id config n [] i a l e g = absurd (omega (arith, l))
config_there id config n (x ∷ items) zero a l e g = ap (λ (b : ClientAssociation). b.config) e ∙ g.0.config
config_there id config n (x ∷ items) (suc i) a l e g = let m : i < length items = omega (arith, l) in config_there id config n items i a m e g.1

from_there : (items : List ClientAssociation) (i : ℕ) (a : ClientAssociation) → i < length items → a ≡ get_or items i a → drop i (map here_of items) ≡ a.here ∷ drop (i + 1) (map here_of items)
from_there items i a l e =
    let n = length-map items here_of in
    let m : i < length (map here_of items) = omega (arith, n, l) in
    drop_more (map here_of items) i a.here m ∙ ap (λ b. b ∷ drop (i + 1) (map here_of items)) (get_or-map here_of items i a ∙ ap here_of (sym e))

between_is : (n : ℕ) → between 1 4 n ≡ true → (1 ≤ n) × (n ≤ 4)
between_is n e = let p = and_parts (nat_le 1 n) (nat_le n 4) e in (leb-true 1 n p.0, leb-true n 4 p.1)

module _ (id : ClientId) (config : Config) (n : ℕ) (items : List ClientAssociation) (xs : List Association) (i : ℕ) (a : ClientAssociation) (v : map here_of items ≡ xs) (l : i < length items)
    (e : a ≡ get_or items i a) where
  pub server_at_place : list_all is_server (map server_at xs) ≡ true → (1 ≤ a.here.server.0) × (a.here.server.0 ≤ 4)
  server_at_place k = between_is a.here.server.0 (server_there items i a l e (ap (λ ys. list_all is_server (map server_at ys)) v ∙ k))

  pub ends_next : (before after : LeaseEnds) (server : ServerId) (end : Option Stamp) → server ≡ a.here.server → end ≡ end_at a.config (lease_at (Some a.here)) → AreGiven id config n items →
      ((s : ServerId) → end_in after s ≡ cond (same_server server s) end (end_in before s)) → AreEnds config (drop (i + 1) xs) before → AreEnds config (drop i xs) after
  ends_next before after server end f g given put h =
      let c = config_there id config n items i a l e given in
      let told : drop i xs ≡ a.here ∷ drop (i + 1) xs = ap (drop i) (sym v) ∙ from_there items i a l e ∙ ap (λ ys. a.here ∷ drop (i + 1) ys) v in
      let p : (s : ServerId) → end_in after s ≡ cond (same_server a.here.server s) (end_at config (lease_at (Some a.here))) (end_in before s) =
      λ s. put s ∙ ap (λ t. cond (same_server t s) end (end_in before s)) f ∙ ap (λ x. cond (same_server a.here.server s) x (end_in before s)) (g ∙ ap (λ k. end_at k (lease_at (Some a.here))) c) in
      subst (λ ys. AreEnds config ys after) (sym told) (more_ends config (drop (i + 1) xs) a.here before after p h)

-- the place of a step of the loop
pub place_in : (items : List ClientAssociation) (xs : List Association) (i : ℕ) → map here_of items ≡ xs → 0 < i → i ≤ length xs → i - 1 < length items
place_in items xs i v f l = let n = sym (length-map items here_of) ∙ ap length v in omega (arith, f, l, n)

pub next_place : (i : ℕ) → 0 < i → i ≡ i - 1 + 1
next_place i f = omega (arith, f)

-- none is left at first
pub drop_all : (xs : List Association) → drop (length xs) xs ≡ []
drop_all [] = refl
drop_all (x ∷ xs) = drop_all xs
