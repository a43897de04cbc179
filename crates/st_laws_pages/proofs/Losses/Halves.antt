-- The promise on expired leases from its two halves.
use Rattle.st_lemmas.proofs.Words
use Words.{◌≡◌, Bool, true, false, not, ◌&&◌, ◌||◌, List, [], ◌∷◌, ◌++◌, refl, ClientId, ServerId}
use Words.World.{all_clients, all_servers, fresh_world}
use Words.History.{traced}
use Words.Safety.{Step, Promise, Throughout, ExpiredLeasesEmptyClients, is_lost_whole, all_lost_whole, steps}
use Words.Lists.{Has}
use Words.Tables.{all_pass, each_passes}
use Rattle.st_laws_pages.specs.Asks.Law.{InEveryRun, is_unused, all_unused, ExpiredLeasesUseNothing}
use Rattle.st_laws_pages.proofs.Asks.Law.{unused_law}
use Rattle.st_laws_pages.specs.Losses.Losses.{is_left_empty, all_left_empty, ExpiredLeasesEmptyAssociations}
use Rattle.st_laws_pages.proofs.Losses.Law.{runs_empty_associations}

joined : (a b c : Bool) → (not a || b) ≡ true → (not a || not c) ≡ true → (not a || (b && not c)) ≡ true
joined false b c p q = refl
joined true true c p q = q
joined true false c p q = cc

step_whole : (past : List Step) (x : Step) → ExpiredLeasesEmptyAssociations past x → ExpiredLeasesUseNothing past x → ExpiredLeasesEmptyClients past x
step_whole past x p q = all_pass (all_lost_whole past x) (all_clients x.before.world) (λ c i. all_pass (is_lost_whole past x c) (all_servers x.before.world) (λ s j. one c s i j))
  where
    one : (c : ClientId) (s : ServerId) → Has c (all_clients x.before.world) → Has s (all_servers x.before.world) → is_lost_whole past x c s ≡ true
    one c s i j =
        joined _ _ _
        (each_passes (is_left_empty x c) (all_servers x.before.world) (each_passes (all_left_empty x) (all_clients x.before.world) p c i) s j)
        (each_passes (is_unused past x c) (all_servers x.before.world) (each_passes (all_unused past x) (all_clients x.before.world) q c i) s j)

throughout_both : (P Q R : Promise) → ((past : List Step) (x : Step) → P past x → Q past x → R past x) → (xs past : List Step) → Throughout P past xs → Throughout Q past xs → Throughout R past xs
unfolding Throughout
throughout_both P Q R f [] past p q = tt
throughout_both P Q R f (x ∷ xs) past p q = (f past x p.0 q.0, throughout_both P Q R f xs (past ++ x ∷ []) p.1 q.1)

pub whole_law : InEveryRun ExpiredLeasesEmptyClients
whole_law k clients servers d b form es head =
    throughout_both ExpiredLeasesEmptyAssociations ExpiredLeasesUseNothing ExpiredLeasesEmptyClients step_whole (steps es (traced (fresh_world k clients servers d b form))) []
    (runs_empty_associations k clients servers d b form es) (unused_law k clients servers d b form es head)
