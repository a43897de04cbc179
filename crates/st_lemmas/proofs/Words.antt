-- The words that most proofs about the protocol cite, passed on from one place: those of std, the
-- declared types, the variants of each enum, and the modules of definitions. Declares nothing.
pub use Rattle.std.proofs.Common.{Bool, Err, List, None, Ok, OnOk, Option, Result, Some, [], add-one, ap, append_assoc, arith, cond, drop, eq-eqb, eqb}
pub use Rattle.std.proofs.Common.{eqb-true, false, filter, find, get_or, if◌then◌else◌, inl, inr, le-leb, le-ltb, leb-false, leb-true, length, length-append}
pub use Rattle.std.proofs.Common.{length-drop, lt-ltb, ltb-false, ltb-true, map, ne_eqb, not, pred, refl, rules, set, slice_get, subst, suc, sym, take, true}
pub use Rattle.std.proofs.Common.{true≢false, vec_capacity, vec_len, zero, ℕ, ⊎_elim, ◌%◌, ◌&&◌, ◌*◌, ◌++◌, ◌+◌, ◌-◌, ◌/◌, ◌<◌, ◌==◌, ◌^◌, ◌||◌, ◌∙◌, ◌∷◌, ◌≡◌}
pub use Rattle.std.proofs.Common.{◌≢◌, ◌≤◌, ◌⊎◌}
pub use Rattle.std.specs.Prelude.{IfOk, IfSome, IsTrue, OnErr, bytes_eq, filter_map, insert, is_some, max, min, nat_le, nat_lt, option_and_then, option_map}
pub use Rattle.std.specs.Prelude.{remove, slice_index, unwrap_or, ⊤, ◌↔◌}
pub use Rattle.std.specs.List.{AllByRecursion, cons_option, flat_map, list_all, list_any}
pub use Rattle.std.proofs.lemmas.Bool.{and_from, and_parts, cases_Bool, cases_lt, cases_order, eqb-false, false_from_ne_true, lt-leb, not-true, or_cases}
pub use Rattle.std.proofs.lemmas.Bool.{or_from, or_right}
pub use Rattle.std.proofs.lemmas.List.{append-nil, length-map, map-append, take_all}
pub use Rattle.st_base.specs.declared.config.Config.{Config}
pub use Rattle.st_base.specs.declared.disk.BlockAt.{BlockAt}
pub use Rattle.st_base.specs.declared.disk.Command.{Command}
pub use Rattle.st_base.specs.declared.disk.Tag.{Tag}
pub use Rattle.st_base.specs.declared.ids.ClientId.{ClientId}
pub use Rattle.st_base.specs.declared.ids.Epoch.{Epoch}
pub use Rattle.st_base.specs.declared.ids.FileId.{FileId}
pub use Rattle.st_base.specs.declared.ids.GrantNo.{GrantNo}
pub use Rattle.st_base.specs.declared.ids.Life.{Life}
pub use Rattle.st_base.specs.declared.ids.NodeId.{NodeId}
pub use Rattle.st_base.specs.declared.ids.PageNo.{PageNo}
pub use Rattle.st_base.specs.declared.ids.ServerId.{ServerId}
pub use Rattle.st_base.specs.declared.ids.Stamp.{Stamp}
pub use Rattle.st_base.specs.declared.mode.Mode.{Mode}
pub use Rattle.st_base.specs.declared.names.NameAsk.{NameAsk}
pub use Rattle.st_base.specs.declared.names.NameRow.{NameRow}
pub use Rattle.st_base.specs.declared.rows.ExtentRow.{ExtentRow}
pub use Rattle.st_messages.specs.declared.answer.AppAnswer.{AppAnswer}
pub use Rattle.st_messages.specs.declared.ask.Ask.{Ask}
pub use Rattle.st_messages.specs.declared.event.Event.{Event}
pub use Rattle.st_messages.specs.declared.kind.Kind.{Kind}
pub use Rattle.st_messages.specs.declared.message.Body.{Body}
pub use Rattle.st_messages.specs.declared.message.Header.{Header}
pub use Rattle.st_messages.specs.declared.message.Message.{Message}
pub use Rattle.st_messages.specs.declared.message.NameOp.{NameOp}
pub use Rattle.st_messages.specs.declared.message.NameReply.{NameReply}
pub use Rattle.st_messages.specs.declared.message.Why.{Why}
pub use Rattle.st_messages.specs.declared.output.Note.{Note}
pub use Rattle.st_messages.specs.declared.output.Output.{Output}
pub use Rattle.st_messages.specs.declared.output.StepFault.{StepFault}
pub use Rattle.st_rules.specs.declared.authority.AcceptRefusal.{AcceptRefusal}
pub use Rattle.st_rules.specs.declared.authority.Suspect.{Suspect}
pub use Rattle.st_rules.specs.declared.client.Asked.{Asked}
pub use Rattle.st_rules.specs.declared.client.CleanPage.{CleanPage}
pub use Rattle.st_rules.specs.declared.client.ClientInput.{ClientInput}
pub use Rattle.st_rules.specs.declared.client.DemandedFile.{DemandedFile}
pub use Rattle.st_rules.specs.declared.client.Ended.{Ended}
pub use Rattle.st_rules.specs.declared.client.HeldLock.{HeldLock}
pub use Rattle.st_rules.specs.declared.client.IoKind.{IoKind}
pub use Rattle.st_rules.specs.declared.client.KnownExtent.{KnownExtent}
pub use Rattle.st_rules.specs.declared.client.LostPage.{LostPage}
pub use Rattle.st_rules.specs.declared.client.MappedBlock.{MappedBlock}
pub use Rattle.st_rules.specs.declared.client.Operation.{Operation}
pub use Rattle.st_rules.specs.declared.client.PageCommand.{PageCommand}
pub use Rattle.st_rules.specs.declared.client.Release.{Release}
pub use Rattle.st_rules.specs.declared.client.Request.{Request}
pub use Rattle.st_rules.specs.declared.client.SeenGrant.{SeenGrant}
pub use Rattle.st_rules.specs.declared.client.Stage.{Stage}
pub use Rattle.st_rules.specs.declared.client.WriteRefusal.{WriteRefusal}
pub use Rattle.st_rules.specs.declared.disks.Block.{Block}
pub use Rattle.st_rules.specs.declared.disks.CommandRefusal.{CommandRefusal}
pub use Rattle.st_rules.specs.declared.disks.DiskCommand.{DiskCommand}
pub use Rattle.st_rules.specs.declared.disks.Report.{Report}
pub use Rattle.st_rules.specs.declared.extents.AllocateRefusal.{AllocateRefusal}
pub use Rattle.st_rules.specs.declared.extents.Extent.{Extent}
pub use Rattle.st_rules.specs.declared.input.ServerInput.{ServerInput}
pub use Rattle.st_rules.specs.declared.lease.Excess.{Excess}
pub use Rattle.st_rules.specs.declared.lease.Phase.{Phase}
pub use Rattle.st_rules.specs.declared.locks.AcquireRefusal.{AcquireRefusal}
pub use Rattle.st_rules.specs.declared.locks.LockRow.{LockRow}
pub use Rattle.st_rules.specs.declared.locks.RowDemand.{RowDemand}
pub use Rattle.st_rules.specs.declared.locks.Verdict.{Verdict}
pub use Rattle.st_rules.specs.declared.locks.Waiter.{Waiter}
pub use Rattle.st_rules.specs.declared.log.Cause.{Cause}
pub use Rattle.st_rules.specs.declared.log.Change.{Change}
pub use Rattle.st_rules.specs.declared.log.Fate.{Fate}
pub use Rattle.st_rules.specs.declared.log.LogEntry.{LogEntry}
pub use Rattle.st_rules.specs.declared.log.LogOwner.{LogOwner}
pub use Rattle.st_rules.specs.declared.names.EntryRefusal.{EntryRefusal}
pub use Rattle.st_rules.specs.declared.names.NameEntry.{NameEntry}
pub use Rattle.st_rules.specs.declared.node.StepRefusal.{StepRefusal}
pub use Rattle.st_rules.specs.declared.observation.Observation.{Observation}
pub use Rattle.st_rules.specs.declared.observation.WorldRefusal.{WorldRefusal}
pub use Rattle.st_rules.specs.declared.pages.DirtyPage.{DirtyPage}
pub use Rattle.st_rules.specs.declared.sessions.Hello.{Hello}
pub use Rattle.st_rules.specs.declared.sessions.Session.{Session}
pub use Rattle.st_rules.specs.declared.sessions.SessionState.{SessionState}
pub use Rattle.st_rules.specs.declared.sessions.Taken.{Taken}
pub use Rattle.st_rules.specs.declared.world.Carried.{Carried}
pub use Rattle.st_rules.specs.declared.world.FlushStep.{FlushStep}
pub use Rattle.st_rules.specs.declared.world.IssuedCommand.{IssuedCommand}
pub use Rattle.st_rules.specs.declared.world.LeaseLife.{LeaseLife}
pub use Rattle.st_rules.specs.declared.world.SentMessage.{SentMessage}
pub use Rattle.st_base.specs.Page
pub use Rattle.st_base.specs.declared.config.ConfigRefusal.TheVariants as config_refusals
pub use Rattle.st_base.specs.declared.disk.Command.TheVariants as commands
pub use Rattle.st_base.specs.declared.ids.NodeId.TheVariants as nodes
pub use Rattle.st_base.specs.declared.mode.Mode.TheVariants as modes
pub use Rattle.st_base.specs.declared.names.NameAsk.TheVariants as names
pub use Rattle.st_lemmas.proofs.Lookups
pub use Rattle.st_lemmas.proofs.Numbers
pub use Rattle.st_lemmas.proofs.Tables
pub use Rattle.st_lemmas.proofs.Lengths
pub use Rattle.st_lemmas.proofs.Members
pub use Rattle.st_lemmas.proofs.Serving
pub use Rattle.st_lemmas.proofs.Tests
pub use Rattle.st_lemmas.proofs.Truth
pub use Rattle.st_lemmas.proofs.Versions
pub use Rattle.st_lemmas.proofs.Worlds
pub use Rattle.st_lemmas.specs.Lists
pub use Rattle.st_messages.specs.Kinds
pub use Rattle.st_messages.specs.Ranges
pub use Rattle.st_messages.specs.declared.answer.AppAnswer.TheVariants as answers
pub use Rattle.st_messages.specs.declared.ask.Ask.TheVariants as asks
pub use Rattle.st_messages.specs.declared.event.Event.TheVariants as events
pub use Rattle.st_messages.specs.declared.kind.Party.TheVariants as parties
pub use Rattle.st_messages.specs.declared.message.Body.TheVariants as bodies
pub use Rattle.st_messages.specs.declared.message.NameOp.TheVariants as ops
pub use Rattle.st_messages.specs.declared.message.NameReply.TheVariants as replies
pub use Rattle.st_messages.specs.declared.message.Why.TheVariants as why
pub use Rattle.st_messages.specs.declared.output.Note.TheVariants as notes
pub use Rattle.st_messages.specs.declared.output.Output.TheVariants as outputs
pub use Rattle.st_messages.specs.declared.output.StepFault.TheVariants as faults
pub use Rattle.st_rules.specs.Admissible
pub use Rattle.st_rules.specs.Authority
pub use Rattle.st_rules.specs.Client
pub use Rattle.st_rules.specs.ClientInvariants
pub use Rattle.st_rules.specs.ClientLease
pub use Rattle.st_rules.specs.ClientLocks
pub use Rattle.st_rules.specs.ClientPages
pub use Rattle.st_rules.specs.ClientPasses
pub use Rattle.st_rules.specs.ClientReplies
pub use Rattle.st_rules.specs.ClientState
pub use Rattle.st_rules.specs.Dating
pub use Rattle.st_rules.specs.Disks
pub use Rattle.st_rules.specs.Events
pub use Rattle.st_rules.specs.Extents
pub use Rattle.st_rules.specs.FlatLog
pub use Rattle.st_rules.specs.Generator
pub use Rattle.st_rules.specs.Grace
pub use Rattle.st_rules.specs.History
pub use Rattle.st_rules.specs.Keys
pub use Rattle.st_rules.specs.Leases
pub use Rattle.st_rules.specs.Lines
pub use Rattle.st_rules.specs.Locks
pub use Rattle.st_rules.specs.Names
pub use Rattle.st_rules.specs.Run
pub use Rattle.st_rules.specs.Safety
pub use Rattle.st_rules.specs.Server
pub use Rattle.st_rules.specs.ServerInvariants
pub use Rattle.st_rules.specs.Sessions
pub use Rattle.st_rules.specs.World
pub use Rattle.st_rules.specs.WorldInvariants
pub use Rattle.st_rules.specs.declared.client.ClientInput.TheVariants as inputs
pub use Rattle.st_rules.specs.declared.client.Ended.TheVariants as ends
pub use Rattle.st_rules.specs.declared.client.IoKind.TheVariants as io
pub use Rattle.st_rules.specs.declared.client.Stage.TheVariants as stages
pub use Rattle.st_rules.specs.declared.client.WriteRefusal.TheVariants as writing
pub use Rattle.st_rules.specs.declared.disks.Report.TheVariants as reports
pub use Rattle.st_rules.specs.declared.extents.AllocateRefusal.TheVariants as wants
pub use Rattle.st_rules.specs.declared.input.ServerInput.TheVariants as serving
pub use Rattle.st_rules.specs.declared.lease.Phase.TheVariants as phases
pub use Rattle.st_rules.specs.declared.locks.Verdict.TheVariants as verdicts
pub use Rattle.st_rules.specs.declared.log.Cause.TheVariants as causes
pub use Rattle.st_rules.specs.declared.log.Change.TheVariants as changes
pub use Rattle.st_rules.specs.declared.log.Fate.TheVariants as fates
pub use Rattle.st_rules.specs.declared.observation.Observation.TheVariants as seen
pub use Rattle.st_rules.specs.declared.observation.WorldRefusal.TheVariants as refusals
pub use Rattle.st_rules.specs.declared.sessions.Hello.TheVariants as hellos
pub use Rattle.st_rules.specs.declared.sessions.SessionState.TheVariants as states
pub use Rattle.st_rules.specs.declared.sessions.Taken.TheVariants as takes
