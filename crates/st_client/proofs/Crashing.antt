-- What a crash leaves of a client: its servers and its lives.
use Rattle.st_lemmas.proofs.Words
use Words.{◌≡◌, ℕ, ◌+◌, ◌<◌, Bool, true, false, ◌&&◌, List, [], ◌∷◌, length, map, drop, get_or, refl, sym, ap, ◌∙◌, arith, ne_eqb, Option, Some, None}
use Words.{cond, find, list_all, Config, ClientId, Life, ServerId, Stamp}
use Words.Tables.{cond_either, cond_false}
use Words.Client.{association_of, crash, crashed_association, has_dirty_with, is_any, lease_at, lease_end_with, life_of_association, phase_with}
use Words.Client.{store_at}
use Words.ClientLease.{ClientLease, end_at, phase_at}
use Words.ClientPages.{Store, empty_store}
use Words.ClientState.{Association, ClientState, is_at}
use Words.Keys.{same_server}
use Words.World as world
use Rattle.std.proofs.lemmas.List.{drop_more}
use Rattle.st_client_association.specs.Associations.{has_room_at}
use Rattle.st_client.specs.Nodes.{RunsAs, crashed_at, crashed_client, crashed_lives, is_low, life_in, server_at, state_of}
use Rattle.st_client.specs.Room.{has_room}

pub crashed_here : (xs : List Association) → crashed_at (map server_at xs) (map life_of_association xs) ≡ map crashed_association xs
crashed_here [] = refl
crashed_here (a ∷ xs) = ap (λ ys. crashed_association a ∷ ys) (crashed_here xs)

pub crashed_again : (ss : List ServerId) (ls : List Life) → map crashed_association (crashed_at ss ls) ≡ crashed_at ss ls
crashed_again [] ls = refl
crashed_again (s ∷ ss) [] = refl
crashed_again (s ∷ ss) (l ∷ ls) = ap (λ ys. association_of l s ∷ ys) (crashed_again ss ls)

pub lives_there : (ss : List ServerId) (ls : List Life) → length ls ≡ length ss → map life_of_association (crashed_at ss ls) ≡ ls
lives_there [] [] e = refl
lives_there [] (l ∷ ls) e = cc
lives_there (s ∷ ss) [] e = cc
lives_there (s ∷ ss) (l ∷ ls) e = ap (λ ys. l ∷ ys) (lives_there ss ls (omega (arith, e)))

pub low_there : (ss : List ServerId) (ls : List Life) → length ls ≡ length ss → list_all has_room_at (crashed_at ss ls) ≡ list_all is_low ls
low_there [] [] e = refl
low_there [] (l ∷ ls) e = cc
low_there (s ∷ ss) [] e = cc
low_there (s ∷ ss) (l ∷ ls) e = ap (λ b. b && list_all has_room_at (crashed_at ss ls)) (alone (is_low l)) ∙ ap (λ b. is_low l && b) (low_there ss ls (omega (arith, e)))
  where
    alone : (b : Bool) → (b && true) ≡ b
    alone true = refl
    alone false = refl

-- a client that crashed keeps only its lives
pub crashes : (id : ClientId) (config : Config) (ss : List ServerId) (ls : List Life) (o : Option ClientState) → RunsAs id config ss ls o →
    crashed_client id config ss ls ≡ crash (state_of id config ss ls o)
unfolding crash
crashes id config ss ls None r = ap (λ ys. record { id = id; config = config; associations = ys; operations = []; next_command = 1 }) (sym (crashed_again ss ls))
crashes id config ss ls (Some c) r =
    let e = ap (λ xs. crashed_at xs ls) (sym r.servers) ∙ ap (λ xs. crashed_at (map server_at c.associations) xs) (sym r.lives) ∙ crashed_here c.associations in
    ap (λ i. crashed_client i config ss ls) (sym r.id)
    ∙ ap (λ k. crashed_client c.id k ss ls) (sym r.config)
    ∙ ap (λ ys. record { id = c.id; config = c.config; associations = ys; operations = []; next_command = 1 }) e

-- it holds no lease, and has nothing in store
pub no_lease : (server : ServerId) (ss : List ServerId) (ls : List Life) → lease_at (find (is_at server) (crashed_at ss ls)) ≡ None
no_lease server [] ls = refl
no_lease server (s ∷ ss) [] = refl
no_lease server (s ∷ ss) (l ∷ ls) =
    cond_either (λ (o : Option Association). lease_at o ≡ None) (is_at server (association_of l s)) (Some (association_of l s)) (find (is_at server) (crashed_at ss ls)) (λ e. refl) (λ e. no_lease server ss ls)

pub no_store : (server : ServerId) (ss : List ServerId) (ls : List Life) → store_at (find (is_at server) (crashed_at ss ls)) ≡ empty_store
no_store server [] ls = refl
no_store server (s ∷ ss) [] = refl
no_store server (s ∷ ss) (l ∷ ls) =
    cond_either (λ (o : Option Association). store_at o ≡ empty_store) (is_at server (association_of l s)) (Some (association_of l s)) (find (is_at server) (crashed_at ss ls)) (λ e. refl) (λ e. no_store server ss ls)

-- lives that end without a lease
pub crashed_lives_are : (id : ClientId) (config : Config) (ss : List ServerId) (ls : List Life) → crashed_lives id ss ls ≡ world.lives_of (crashed_client id config ss ls)
crashed_lives_are id config [] ls = refl
crashed_lives_are id config (s ∷ ss) [] = refl
crashed_lives_are id config (s ∷ ss) (l ∷ ls) = ap (λ ys. record { client = id; server = s; life = l; end = None; crashed = false } ∷ ys) (crashed_lives_are id config ss ls)

-- the life at a server, by the servers and the lives
life_by : (b : Bool) (a : Association) (o : Option Association) → world.life_at (cond b (Some a) o) ≡ cond b a.life (world.life_at o)
life_by true a o = refl
life_by false a o = refl

pub life_found : (server : ServerId) (xs : List Association) → life_in (map server_at xs) (map life_of_association xs) server ≡ world.life_at (find (is_at server) xs)
life_found server [] = refl
life_found server (a ∷ xs) =
    ap (λ l. cond (same_server a.server server) a.life l) (life_found server xs) ∙ sym (life_by (same_server a.server server) a (find (is_at server) xs))

life_crashed : (server : ServerId) (ss : List ServerId) (ls : List Life) → length ls ≡ length ss → life_in ss ls server ≡ world.life_at (find (is_at server) (crashed_at ss ls))
life_crashed server [] [] e = refl
life_crashed server [] (l ∷ ls) e = cc
life_crashed server (s ∷ ss) [] e = cc
life_crashed server (s ∷ ss) (l ∷ ls) e =
    ap (λ k. cond (same_server s server) l k) (life_crashed server ss ls (omega (arith, e))) ∙ sym (life_by (same_server s server) (association_of l s) (find (is_at server) (crashed_at ss ls)))

pub life_is : (id : ClientId) (config : Config) (ss : List ServerId) (ls : List Life) (o : Option ClientState) (server : ServerId) → length ls ≡ length ss → RunsAs id config ss ls o →
    life_in ss ls server ≡ world.life_with (state_of id config ss ls o) server
life_is id config ss ls None server e r = life_crashed server ss ls e
life_is id config ss ls (Some c) server e r =
    ap (λ xs. life_in xs ls server) (sym r.servers) ∙ ap (λ xs. life_in (map server_at c.associations) xs server) (sym r.lives) ∙ life_found server c.associations

pub lives_are : (id : ClientId) (config : Config) (ss : List ServerId) (ls : List Life) (o : Option ClientState) → length ls ≡ length ss → RunsAs id config ss ls o →
    ls ≡ map life_of_association (state_of id config ss ls o).associations
lives_are id config ss ls None e r = sym (lives_there ss ls e)
lives_are id config ss ls (Some c) e r = sym r.lives

-- two lists of one length, from one place on
pub both_more : {Y : Type 0} (F : List ServerId → List Life → Y) (ss : List ServerId) (ls : List Life) (i : ℕ) (s : ServerId) (l : Life) → i < length ss → length ls ≡ length ss →
    F (drop i ss) (drop i ls) ≡ F (get_or ss i s ∷ drop (i + 1) ss) (get_or ls i l ∷ drop (i + 1) ls)
both_more F ss ls i s l n e =
    let m : i < length ls = omega (arith, n, e) in
    ap (λ xs. F xs (drop i ls)) (drop_more ss i s n) ∙ ap (λ xs. F (get_or ss i s ∷ drop (i + 1) ss) xs) (drop_more ls i l m)

-- nothing is there if a client is crashed
pub nothing_dirty : (id : ClientId) (config : Config) (ss : List ServerId) (ls : List Life) (server : ServerId) → false ≡ has_dirty_with (crashed_client id config ss ls) server
nothing_dirty id config ss ls server = ap (λ (st : Store). is_any st.pages.dirty) (sym (no_store server ss ls))

pub no_end : (id : ClientId) (config : Config) (ss : List ServerId) (ls : List Life) (server : ServerId) → None ≡ lease_end_with (crashed_client id config ss ls) server
no_end id config ss ls server = ap (λ (l : Option ClientLease). end_at config l) (sym (no_lease server ss ls))

pub no_phase : (id : ClientId) (config : Config) (ss : List ServerId) (ls : List Life) (server : ServerId) (now : Stamp) → None ≡ phase_with (crashed_client id config ss ls) server now
no_phase id config ss ls server now = ap (λ (l : Option ClientLease). phase_at config l now) (sym (no_lease server ss ls))

pub room_there : (id : ClientId) (config : Config) (ss : List ServerId) (ls : List Life) → length ls ≡ length ss → has_room (crashed_client id config ss ls) ≡ list_all is_low ls
room_there id config ss ls e = low_there ss ls e

-- the place that a server is not at
pub life_next : (ss : List ServerId) (ls : List Life) (i : ℕ) (s server : ServerId) (l : Life) → i < length ss → length ls ≡ length ss → ((get_or ss i s).0 ≡ server.0 → ⊥) →
    life_in (drop i ss) (drop i ls) server ≡ life_in (drop (i + 1) ss) (drop (i + 1) ls) server
life_next ss ls i s server l n e f = both_more (λ xs ys. life_in xs ys server) ss ls i s l n e ∙ cond_false (same_server (get_or ss i s) server) (get_or ls i l) _ (ne_eqb (get_or ss i s).0 server.0 f)
