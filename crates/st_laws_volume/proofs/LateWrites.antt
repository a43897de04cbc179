-- As clocks take a client to the end of a lease while pages of that server are dirty, no write of these files is outstanding.
use Rattle.st_lemmas.proofs.Words
use Words.{◌≡◌, ◌≤◌, ℕ, Bool, true, false, not, ◌&&◌, ◌||◌, List, [], ◌∷◌, Some, None, sym, ap, ◌∙◌, subst, inl, inr, arith}
use Words.{length, ClientId, ServerId}
use Words.events
use Words.nodes
use Words.Admissible as adm
use Words.Client as cl
use Words.Lists.{Has}
use Words.Members.{between_in_numbers}
use Words.Numbers.{numbered_below}
use Words.Tables.{has_map_in}
use Words.World as world
use Words.World.{World, WorldClient, clock_of, site_of}
use Words.Worlds.{stands_not}
use Rattle.st_rules.specs.Extents.{numbers}
use Rattle.st_laws_pages.proofs.Disks.Effects.{or_none}

-- No client comes to a lease end unflushed.
at_servers : (w : World) (steps : List ℕ) (c : ClientId) (ss : List ServerId) → adm.missed_by w steps c ss ≡ None → (s : ServerId) → Has s ss →
    adm.missed_at w steps c s (site_of w c) ≡ None
unfolding adm.missed_by
at_servers w steps c [] e s i = absurd i
at_servers w steps c (x ∷ ss) e s (inl q) =
    subst (λ y. adm.missed_at w steps c y (site_of w c) ≡ None) (sym q)
    (or_none (adm.missed_at w steps c x (site_of w c)) (adm.missed_by w steps c ss) e).0
at_servers w steps c (x ∷ ss) e s (inr i) = at_servers w steps c ss (or_none (adm.missed_at w steps c x (site_of w c)) (adm.missed_by w steps c ss) e).1 s i

at_clients : (w : World) (steps : List ℕ) (cs : List ClientId) → adm.flush_missed w steps cs ≡ None → (c : ClientId) → Has c cs →
    adm.missed_by w steps c (world.all_servers w) ≡ None
unfolding adm.flush_missed
at_clients w steps [] e c i = absurd i
at_clients w steps (x ∷ cs) e c (inl q) =
    subst (λ y. adm.missed_by w steps y (world.all_servers w) ≡ None) (sym q)
    (or_none (adm.missed_by w steps x (world.all_servers w)) (adm.flush_missed w steps cs) e).0
at_clients w steps (x ∷ cs) e c (inr i) =
    at_clients w steps cs (or_none (adm.missed_by w steps x (world.all_servers w)) (adm.flush_missed w steps cs) e).1 c i

flushed_all : (w : World) (steps : List ℕ) → adm.refusal w (events.Advance steps) ≡ None → adm.flush_missed w steps (world.all_clients w) ≡ None
unfolding adm.refusal
flushed_all w steps r = (or_none (adm.clocks_refused w steps) (adm.flush_missed w steps (world.all_clients w)) r).1

-- of a running client whose lease end is reached, with a dirty page
no_write : (runs reached dirty unflushed write : Bool) → (runs && (reached && (dirty && (unflushed || write)))) ≡ false → runs ≡ true → reached ≡ true →
    dirty ≡ true → write ≡ false
no_write true true true unflushed write h x y z = go unflushed write h
  where
    go : (a b : Bool) → (a || b) ≡ false → b ≡ false
    go true b h = cc h
    go false b h = h
no_write false reached dirty unflushed write h x y z = cc x
no_write true false dirty unflushed write h x y z = cc y
no_write true true false unflushed write h x y z = cc z

pub unwritten : (w : World) (steps : List ℕ) → adm.refusal w (events.Advance steps) ≡ None → (c : ClientId) (site : WorldClient) →
    site_of w c ≡ Some site → site.node.running ≡ true → (s : ServerId) → (1 ≤ s.0) × (s.0 ≤ length w.servers) →
    adm.reaches (clock_of w (nodes.Client c)) (adm.step_of c steps) (world.present_end w s (Some site)) ≡ true →
    cl.has_dirty_with site.node.state s ≡ true → adm.has_write_out w c s site ≡ false
unwritten w steps refused c site there runs s range reached dirty =
    no_write site.node.running (adm.reaches (clock_of w (nodes.Client c)) (adm.step_of c steps) (world.present_end w s (Some site)))
    (cl.has_dirty_with site.node.state s)
    (not (adm.has_flushed w c s (world.present_end w s (Some site)))) (adm.has_write_out w c s site)
    (stands_not (adm.misses w c s (adm.step_of c steps) site (world.present_end w s (Some site))) _
    (ap (adm.missed_at w steps c s) (sym there)
    ∙ at_servers w steps c (world.all_servers w) (at_clients w steps (world.all_clients w) (flushed_all w steps refused) c client) s server))
    runs reached dirty
  where
    to_client : ℕ → ClientId
    to_client n = record { 0 = n }

    to_server : ℕ → ServerId
    to_server n = record { 0 = n }

    client : Has c (world.all_clients w)
    client =
        let z = numbered_below w.clients c.0 site there in
        let x = z.0 in
        let y = z.1 in has_map_in to_client (numbers 1 (length w.clients)) c.0 (between_in_numbers 1 (length w.clients) c.0 x (omega (arith, y)))

    server : Has s (world.all_servers w)
    server =
        let x = range.0 in
        let y = range.1 in has_map_in to_server (numbers 1 (length w.servers)) s.0 (between_in_numbers 1 (length w.servers) s.0 x (omega (arith, y)))
