-- How far the counters of a client may rise in a step, in whatever world it is.
use Rattle.std.specs.Prelude.{◌≡◌, ◌≤◌, ◌+◌, ◌*◌, ◌^◌, ℕ, length, Some}
use Rattle.st_base.specs.declared.config.Config.{Config}
use Rattle.st_base.specs.declared.ids.ClientId.{ClientId}
use Rattle.st_base.specs.declared.ids.Stamp.{Stamp}
use Rattle.st_rules.specs.declared.client.ClientInput.{ClientInput}
use Rattle.st_rules.specs.Client.{client_step, fresh_client}
use Rattle.st_rules.specs.ClientState.{Association, ClientState}
use Rattle.st_rules.specs.World.{World, WorldClient, site_of}
use Rattle.st_lemmas.specs.Lists.{Has}
use Rattle.st_laws_bounds.specs.Counters.Counts.{AsksLow}

-- what a client has of a server is within this: its counters are, and at most 64 pages are dirty
pub record IsWithinAt (most : ℕ) (a : Association) : Type 0 where
  pub dirty : length a.store.pages.dirty ≤ 64
  pub versions : a.store.pages.next_version ≤ most
  pub lives : a.life.0 ≤ most
  pub requests : AsksLow most a.session

-- A client's counters are within this; it has at most four servers, and at most 20 operations are pending.
pub record IsWithin (most : ℕ) (s : ClientState) : Type 0 where
  pub operations : length s.operations ≤ 20
  pub servers : length s.associations ≤ 4
  pub commands : s.next_command ≤ most
  pub each : (a : Association) → Has a s.associations → IsWithinAt most a

-- A step raises no counter by more than 2^15.
abbrev pub StepsRaiseLittle : Type 0
StepsRaiseLittle = (s : ClientState) (now : Stamp) (input : ClientInput) (most : ℕ) → IsWithin most s → IsWithin (most + 2 ^ 15) (client_step s now input).state

-- The counters of a fresh client are 1.
abbrev pub FreshClientsBegin : Type 0
FreshClientsBegin = (id : ClientId) (config : Config) (servers : ℕ) → servers ≤ 4 → IsWithin 1 (fresh_client id config servers)

-- Each client's counters are within 2^15 for each event.
abbrev pub ClientsWithin : World → Type 0
ClientsWithin w = (c : ClientId) (site : WorldClient) → site_of w c ≡ Some site → IsWithin (1 + 32768 * w.tally.events) site.node.state
