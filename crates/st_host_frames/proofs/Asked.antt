-- Structs whose fields are out of their ranges mean messages that don't fit.
use Rattle.std.proofs.Common.{◌≡◌, ℕ, ◌+◌, ◌<◌, ◌≤◌, ◌-◌, ◌^◌, Bool, true, false, cond, leb, List, length, Option, Some, None, Result, Ok, Err, refl, sym, ap}
use Rattle.std.proofs.Common.{subst, ◌∙◌, arith, inl, inr}
use Rattle.std.specs.Prelude.{◌&&◌}
use Rattle.std.proofs.lemmas.Bool.{and_left, and_right, cases_Bool, leb-false, lt-leb, le-ltb, ltb-true}
use Rattle.st_base.specs.declared.ids.FileId.{FileId}
use Rattle.st_base.specs.declared.ids.PageNo.{PageNo}
use Rattle.st_messages.specs.Kinds.{between, is_word64, kind_of_body}
use Rattle.st_messages.specs.Ranges.{fits, has_length, is_ask, is_body, is_disk_result, is_file, is_header, is_page, is_tag, is_whole_page, is_word32}
use Rattle.st_messages.specs.declared.ask.Ask.{Ask}
use Rattle.st_messages.specs.declared.ask.Ask.TheVariants as asks
use Rattle.st_messages.specs.declared.message.DiskResult.{DiskResult}
use Rattle.st_messages.specs.declared.message.DiskResult.TheVariants as results
use Rattle.st_messages.specs.declared.message.Message.{Message}
use Rattle.st_base.specs.declared.disk.Tag.{Tag}
use Rattle.st_host_frames.specs.Asks as asking
use Rattle.st_host_frames.specs.Asks.{ask_message, framed_ask}
use Rattle.st_host_frames.specs.Ends as ending
use Rattle.st_host_frames.specs.Ends.{end_message, framed_end}
use Rattle.st_host_frames.specs.Messages.{framed}
use Rattle.st_host_frames.specs.Results.{Fails}
use Rattle.st_host_frames.specs.declared.ask_fields.TankAsk.{TankAsk}
use Rattle.st_host_frames.specs.declared.done.TankDone.{TankDone}
use Rattle.st_host_frames.specs.declared.fault.HostFault.{HostFault}
use Rattle.st_host_frames.specs.declared.fault.HostFault.TheVariants as faults

-- a message that doesn't fit has no frame
no_frame : (m : Message) → is_body m.body ≡ false → framed m ≡ Err faults.Range
unfolding fits
no_frame m e = rw (and_right (is_header (kind_of_body m.body) m.header) (is_body m.body) e) refl

unfit_ask : (a : TankAsk) (x : Ask) → is_ask x ≡ false → framed (ask_message a x) ≡ Err faults.Range
unfolding is_body
unfit_ask a x e = no_frame (ask_message a x) (and_right (is_word32 a.op) (is_ask x) e)

-- nor has an ask whose number is too great
pub no_such_op : (a : TankAsk) (x : Ask) → 4294967295 < a.op → framed (ask_message a x) ≡ Err faults.Range
unfolding is_body
no_such_op a x e = no_frame (ask_message a x) (and_left (is_word32 a.op) (is_ask x) (le-ltb a.op (2 ^ 32) (omega arith)))

unfit_write : (f : FileId) (p : PageNo) (bytes : List ℕ) → is_whole_page bytes ≡ false → is_ask (asks.Write f p bytes) ≡ false
unfolding is_ask
unfit_write f p bytes e = and_right (is_file 1 f) (is_page 0 p.0 && is_whole_page bytes) (and_right (is_page 0 p.0) (is_whole_page bytes) e)

outside_narrower_range : (at n : ℕ) → between 1 4096 n ≡ false → between 1 (4096 - at) n ≡ false
outside_narrower_range at n e = elim (cases_Bool (leb 1 n)) [
  | inl h ↦ and_right (leb 1 n) (leb n (4096 - at)) (lt-leb n (4096 - at) (omega (arith, leb-false n 4096 (second h))))
  | inr h ↦ and_left (leb 1 n) (leb n (4096 - at)) h
]
  where
    second : leb 1 n ≡ true → leb n 4096 ≡ false
    second h = sym (ap (λ (b : Bool). b && leb n 4096) h) ∙ e

unfit_patch : (f : FileId) (p : PageNo) (at : ℕ) (bytes : List ℕ) → has_length 1 4096 bytes ≡ false → is_ask (asks.Patch f p at bytes) ≡ false
unfolding is_ask
unfit_patch f p at bytes e =
    and_right (is_file 1 f) (is_page 0 p.0 && (between 0 4095 at && has_length 1 (4096 - at) bytes))
    (and_right (is_page 0 p.0) (between 0 4095 at && has_length 1 (4096 - at) bytes)
    (and_right (between 0 4095 at) (has_length 1 (4096 - at) bytes) (outside_narrower_range at (length bytes) e)))

-- an ask that isn't measured has the frame's fault
write_fault : (a : TankAsk) (f : FileId) (p : PageNo) (bytes : List ℕ) (h : HostFault) (b : Bool) → is_whole_page bytes ≡ b
    → asking.measured (Some (asks.Write f p bytes)) ≡ Err h → framed_ask a (Some (asks.Write f p bytes)) ≡ Err h
write_fault a f p bytes h true w e = absurd cc
write_fault a f p bytes h false w e = unfit_ask a (asks.Write f p bytes) (unfit_write f p bytes w) ∙ cc

patch_fault : (a : TankAsk) (f : FileId) (p : PageNo) (at : ℕ) (bytes : List ℕ) (h : HostFault) (b : Bool) → has_length 1 4096 bytes ≡ b
    → asking.measured (Some (asks.Patch f p at bytes)) ≡ Err h → framed_ask a (Some (asks.Patch f p at bytes)) ≡ Err h
patch_fault a f p at bytes h true w e = absurd cc
patch_fault a f p at bytes h false w e = unfit_ask a (asks.Patch f p at bytes) (unfit_patch f p at bytes w) ∙ cc

ask_fault : (a : TankAsk) (o : Option Ask) (h : HostFault) → asking.measured o ≡ Err h → framed_ask a o ≡ Err h
ask_fault a None h e = cc
ask_fault a (Some (asks.Write f p bytes)) h e = write_fault a f p bytes h (is_whole_page bytes) refl e
ask_fault a (Some (asks.Read f p)) h e = absurd cc
ask_fault a (Some (asks.Sync f)) h e = absurd cc
ask_fault a (Some (asks.Cut f p)) h e = absurd cc
ask_fault a (Some (asks.Name s n)) h e = absurd cc
ask_fault a (Some (asks.Patch f p at bytes)) h e = patch_fault a f p at bytes h (has_length 1 4096 bytes) refl e

pub ask_fails : (a : TankAsk) (o : Option Ask) (h : HostFault) → Fails h (asking.measured o) → Fails h (framed_ask a o)
ask_fails a o faults.Unknown e = ask_fault a o faults.Unknown e
ask_fails a o faults.Range e = ask_fault a o faults.Range e
ask_fails a o (faults.Room n) e = ask_fault a o (faults.Room n) e
ask_fails a o (faults.Frame f) e = ask_fault a o (faults.Frame f) e
ask_fails a o faults.OtherKind e = ask_fault a o faults.OtherKind e
ask_fails a o faults.Memory e = tt

-- one that is measured is the ask itself
ok_asked : {A : Type 0} (b : Bool) (x y : A) (h : HostFault) → cond b (Ok x) (Err h) ≡ Ok y → x ≡ y
ok_asked true x y h e = cc
ok_asked false x y h e = absurd cc

pub ask_measured : (a : TankAsk) (o : Option Ask) (x : Ask) → asking.measured o ≡ Ok x → framed_ask a o ≡ framed (ask_message a x)
ask_measured a None x e = absurd cc
ask_measured a (Some (asks.Write f p bytes)) x e =
    ap (λ (y : Ask). framed (ask_message a y)) (ok_asked (is_whole_page bytes) (asks.Write f p bytes) x faults.Range e)
ask_measured a (Some (asks.Read f p)) x e = ap (λ (y : Ask). framed (ask_message a y)) cc
ask_measured a (Some (asks.Sync f)) x e = ap (λ (y : Ask). framed (ask_message a y)) cc
ask_measured a (Some (asks.Cut f p)) x e = ap (λ (y : Ask). framed (ask_message a y)) cc
ask_measured a (Some (asks.Name s n)) x e = ap (λ (y : Ask). framed (ask_message a y)) cc
ask_measured a (Some (asks.Patch f p at bytes)) x e =
    ap (λ (y : Ask). framed (ask_message a y)) (ok_asked (has_length 1 4096 bytes) (asks.Patch f p at bytes) x faults.Range e)

-- The same of the ends of disk commands.
unfit_end : (d : TankDone) (x : DiskResult) → is_disk_result x ≡ false → framed (end_message d x) ≡ Err faults.Range
unfolding is_body
unfit_end d x e = no_frame (end_message d x) (and_right (is_word64 d.number) (is_disk_result x) e)

unfit_read : (t : Tag) (bytes : List ℕ) → is_whole_page bytes ≡ false → is_disk_result (results.ReadDone t bytes) ≡ false
unfolding is_disk_result
unfit_read t bytes e = and_right (is_tag 0 t) (is_whole_page bytes) e

read_fault : (d : TankDone) (t : Tag) (bytes : List ℕ) (h : HostFault) (b : Bool) → is_whole_page bytes ≡ b
    → ending.measured (Some (results.ReadDone t bytes)) ≡ Err h → framed_end d (Some (results.ReadDone t bytes)) ≡ Err h
read_fault d t bytes h true w e = absurd cc
read_fault d t bytes h false w e = unfit_end d (results.ReadDone t bytes) (unfit_read t bytes w) ∙ cc

end_fault : (d : TankDone) (o : Option DiskResult) (h : HostFault) → ending.measured o ≡ Err h → framed_end d o ≡ Err h
end_fault d None h e = cc
end_fault d (Some results.Failed) h e = absurd cc
end_fault d (Some results.WriteDone) h e = absurd cc
end_fault d (Some (results.ReadDone t bytes)) h e = read_fault d t bytes h (is_whole_page bytes) refl e

pub end_fails : (d : TankDone) (o : Option DiskResult) (h : HostFault) → Fails h (ending.measured o) → Fails h (framed_end d o)
end_fails d o faults.Unknown e = end_fault d o faults.Unknown e
end_fails d o faults.Range e = end_fault d o faults.Range e
end_fails d o (faults.Room n) e = end_fault d o (faults.Room n) e
end_fails d o (faults.Frame f) e = end_fault d o (faults.Frame f) e
end_fails d o faults.OtherKind e = end_fault d o faults.OtherKind e
end_fails d o faults.Memory e = tt

pub end_measured : (d : TankDone) (o : Option DiskResult) (x : DiskResult) → ending.measured o ≡ Ok x → framed_end d o ≡ framed (end_message d x)
end_measured d None x e = absurd cc
end_measured d (Some results.Failed) x e = ap (λ (y : DiskResult). framed (end_message d y)) cc
end_measured d (Some results.WriteDone) x e = ap (λ (y : DiskResult). framed (end_message d y)) cc
end_measured d (Some (results.ReadDone t bytes)) x e =
    ap (λ (y : DiskResult). framed (end_message d y)) (ok_asked (is_whole_page bytes) (results.ReadDone t bytes) x faults.Range e)
