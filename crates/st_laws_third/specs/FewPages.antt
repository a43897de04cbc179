-- In every run of the third form, no client has more dirty pages of a server than it may, nor more clean ones.
use Rattle.std.specs.Prelude.{◌≡◌, ℕ, Bool, true, nat_le, List, [], length}
use Rattle.std.specs.List.{list_all}
use Rattle.st_base.specs.declared.config.Config.{Config}
use Rattle.st_base.specs.declared.ids.ClientId.{ClientId}
use Rattle.st_rules.specs.ClientState.{Association}
use Rattle.st_rules.specs.World.{all_clients, site_of}
use Rattle.st_third.specs.declared.event.ThirdEvent.{ThirdEvent}
use Rattle.st_third.specs.declared.limits.Limits.{Limits}
use Rattle.st_third.specs.Promises.{ThirdPromise, Throughout, associations_at}
use Rattle.st_third.specs.Steps.{steps, third_traced}
use Rattle.st_third.specs.World.{ThirdWorld, third_world}

-- of a server
abbrev pub has_few_dirty_at : Limits → Association → Bool
has_few_dirty_at m a = nat_le (length a.store.pages.dirty) m.dirty

-- of each server
abbrev pub has_few_dirty : ThirdWorld → ClientId → Bool
has_few_dirty w c = list_all (has_few_dirty_at w.limits) (associations_at (site_of w.world c))

-- each client, after an event
abbrev pub DirtyPagesAreFew : ThirdPromise
DirtyPagesAreFew past x = list_all (has_few_dirty x.after.third) (all_clients x.after.third.world) ≡ true

-- In every run of the third form
abbrev pub EveryClientHasFewDirtyPages : Type 0
EveryClientHasFewDirtyPages =
    (k : Config) (m : Limits) (clients servers disks blocks : ℕ) (es : List ThirdEvent) →
    Throughout DirtyPagesAreFew [] (steps es (third_traced (third_world k m clients servers disks blocks 3)))

-- The same of clean pages: of a server
abbrev pub has_few_clean_at : Limits → Association → Bool
has_few_clean_at m a = nat_le (length a.store.pages.clean) m.clean

-- of each server
abbrev pub has_few_clean : ThirdWorld → ClientId → Bool
has_few_clean w c = list_all (has_few_clean_at w.limits) (associations_at (site_of w.world c))

-- each client, after an event
abbrev pub CleanPagesAreFew : ThirdPromise
CleanPagesAreFew past x = list_all (has_few_clean x.after.third) (all_clients x.after.third.world) ≡ true

-- In every run of the third form
abbrev pub EveryClientHasFewCleanPages : Type 0
EveryClientHasFewCleanPages =
    (k : Config) (m : Limits) (clients servers disks blocks : ℕ) (es : List ThirdEvent) →
    Throughout CleanPagesAreFew [] (steps es (third_traced (third_world k m clients servers disks blocks 3)))
