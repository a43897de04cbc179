-- The first refusal among nodes in order.
use Rattle.st_lemmas.proofs.Words
use Words.{◌≡◌, ℕ, ◌+◌, ◌-◌, ◌<◌, ◌≤◌, List, refl, ap, sym, ◌∙◌, map, Option, Some, None, ClientId, WorldRefusal}
use Words.Admissible.{flush_missed, missed_at, missed_by}
use Words.Extents.{numbers}
use Words.Keys.{client}
use Words.World.{World, all_servers, server, site_of}
use Rattle.std.specs.Option.{option_or}
use Rattle.st_world_events.proofs.Flushed.{numbers_end, numbers_on}

first_some : {A : Type 0} (o rest : Option A) (x : A) → Some x ≡ o → option_or o rest ≡ Some x
first_some None rest x h = absurd (cc)
first_some (Some y) rest x h = sym h

first_none : {A : Type 0} (o rest : Option A) → None ≡ o → option_or o rest ≡ rest
first_none None rest h = refl
first_none (Some y) rest h = absurd (cc)

-- a client at the servers from a number on: refused there, or not there, or at none
pub server_some : (w : World) (steps : List ℕ) (c : ClientId) (i n : ℕ) (x : WorldRefusal) → i < n → Some x ≡ missed_at w steps c (server (i + 1)) (site_of w c) →
    Some x ≡ missed_by w steps c (map server (numbers (i + 1) (n - i)))
unfolding missed_by
server_some w steps c i n x l h =
    sym (ap (λ ns. missed_by w steps c (map server ns)) (numbers_on i n l)
    ∙ first_some (missed_at w steps c (server (i + 1)) (site_of w c)) (missed_by w steps c (map server (numbers (i + 1 + 1) (n - (i + 1))))) x h)

pub server_none : (w : World) (steps : List ℕ) (c : ClientId) (i n : ℕ) → i < n → None ≡ missed_at w steps c (server (i + 1)) (site_of w c) →
    missed_by w steps c (map server (numbers (i + 1 + 1) (n - (i + 1)))) ≡ missed_by w steps c (map server (numbers (i + 1) (n - i)))
unfolding missed_by
server_none w steps c i n l h =
    sym (ap (λ ns. missed_by w steps c (map server ns)) (numbers_on i n l)
    ∙ first_none (missed_at w steps c (server (i + 1)) (site_of w c)) (missed_by w steps c (map server (numbers (i + 1 + 1) (n - (i + 1))))) h)

pub server_end : (w : World) (steps : List ℕ) (c : ClientId) (i n : ℕ) → n ≤ i → None ≡ missed_by w steps c (map server (numbers (i + 1) (n - i)))
unfolding missed_by
server_end w steps c i n l = sym (ap (λ ns. missed_by w steps c (map server ns)) (numbers_end i n l))

-- the clients from a number on
pub client_some : (w : World) (steps : List ℕ) (i n : ℕ) (x : WorldRefusal) → i < n → Some x ≡ missed_by w steps (client (i + 1)) (all_servers w) →
    Some x ≡ flush_missed w steps (map client (numbers (i + 1) (n - i)))
unfolding flush_missed
client_some w steps i n x l h =
    sym (ap (λ ns. flush_missed w steps (map client ns)) (numbers_on i n l)
    ∙ first_some (missed_by w steps (client (i + 1)) (all_servers w)) (flush_missed w steps (map client (numbers (i + 1 + 1) (n - (i + 1))))) x h)

pub client_none : (w : World) (steps : List ℕ) (i n : ℕ) → i < n → None ≡ missed_by w steps (client (i + 1)) (all_servers w) →
    flush_missed w steps (map client (numbers (i + 1 + 1) (n - (i + 1)))) ≡ flush_missed w steps (map client (numbers (i + 1) (n - i)))
unfolding flush_missed
client_none w steps i n l h =
    sym (ap (λ ns. flush_missed w steps (map client ns)) (numbers_on i n l)
    ∙ first_none (missed_by w steps (client (i + 1)) (all_servers w)) (flush_missed w steps (map client (numbers (i + 1 + 1) (n - (i + 1))))) h)

pub client_end : (w : World) (steps : List ℕ) (i n : ℕ) → n ≤ i → None ≡ flush_missed w steps (map client (numbers (i + 1) (n - i)))
unfolding flush_missed
client_end w steps i n l = sym (ap (λ ns. flush_missed w steps (map client ns)) (numbers_end i n l))
