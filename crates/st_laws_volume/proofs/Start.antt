-- At the start the volume is the view of the world.
use Rattle.std.proofs.Common.{◌≡◌, ℕ, zero, suc, ◌+◌, true, List, length, map, refl, ap, ◌∙◌}
use Rattle.std.specs.List.{list_all}
use Rattle.st_base.specs.declared.config.Config.{Config}
use Rattle.st_base.specs.declared.ids.ServerId.{ServerId}
use Rattle.st_rules.specs.Client.{fresh_client}
use Rattle.st_rules.specs.Extents.{numbers}
use Rattle.st_rules.specs.Names.{fresh_names}
use Rattle.st_rules.specs.Server.{fresh_server}
use Rattle.st_rules.specs.World.{fresh_site, fresh_world, node_at_start, server}
use Rattle.st_lemmas.proofs.Tables.{and_both}
use Rattle.st_laws_volume.specs.Laws.{TheStartAgrees}
use Rattle.st_laws_volume.specs.VolumeRuns.{size_of}
use Rattle.st_laws_volume.specs.Witness.{are_entries, are_operations, are_trees, begun, is_log, is_pending, is_tree}
use Rattle.st_volume.specs.Trees.{fresh_tree}
use Rattle.st_volume.specs.Volume.{fresh_volume}

tree_agrees : (k : Config) (servers disks blocks n : ℕ) → is_tree (node_at_start k servers disks blocks n) fresh_tree ≡ true
unfolding fresh_server fresh_names are_entries
tree_agrees k servers disks blocks n = refl

trees_agree : (k : Config) (servers disks blocks : ℕ) (size : ServerId → ℕ) (from other count : ℕ) → are_trees (map (node_at_start k servers disks blocks) (numbers from count)) (map (λ it. fresh_tree) (map size (map server (numbers other count)))) ≡ true
unfolding numbers are_trees
trees_agree k servers disks blocks size from other zero = refl
trees_agree k servers disks blocks size from other (suc n) =
    and_both _ _ (tree_agrees k servers disks blocks from) (trees_agree k servers disks blocks size (from + 1) (other + 1) n)

sites_agree : (k : Config) (servers : ℕ) (sizes : List ℕ) (from count : ℕ) → list_all (is_pending (fresh_volume sizes)) (map (fresh_site k servers) (numbers from count)) ≡ true
unfolding numbers fresh_client are_operations
sites_agree k servers sizes from zero = refl
sites_agree k servers sizes from (suc n) = sites_agree k servers sizes (from + 1) n

pub counted : {A : Type 0} (f : ℕ → A) (from count : ℕ) → length (map f (numbers from count)) ≡ count
unfolding numbers
counted f from zero = refl
counted f from (suc n) = ap suc (counted f (from + 1) n)

pub start_agrees : TheStartAgrees
unfolding fresh_world begun is_log
start_agrees k clients servers disks blocks form =
    and_both _ _
    (ap (λ n. are_trees (map (node_at_start k servers disks blocks) (numbers 1 servers)) (map (λ it. fresh_tree) (map (size_of (fresh_world k clients servers disks blocks form)) (map server (numbers 1 n)))))
    (counted (node_at_start k servers disks blocks) 1 servers)
    ∙ trees_agree k servers disks blocks (size_of (fresh_world k clients servers disks blocks form)) 1 1 servers)
    (sites_agree k servers
    (map (size_of (fresh_world k clients servers disks blocks form)) (map server (numbers 1 (length (map (node_at_start k servers disks blocks) (numbers 1 servers))))))
    1 clients)
