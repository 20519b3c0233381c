-- A BYOB request is made only by the call that asks for it, where there is a descriptor.
use Rattle.std.proofs.Common.{◌≡◌, Bool, true, false, List, arith}
use Rattle.ws_steps.specs.Slots.{lock_at}
use Rattle.ws_laws.proofs.Into.{into-either}
use Rattle.ws_steps.specs.declared.effects.Effect.{Effect}
use Rattle.ws_steps.specs.declared.byte.ByteOperation.TheVariants as own
use Rattle.ws_steps.specs.declared.calls.Call.{Call}
use Rattle.ws_steps.specs.declared.calls.Call.TheVariants as c
use Rattle.ws_steps.specs.declared.effects.Effect.TheVariants.{Byte}
use Rattle.ws_steps.specs.Slots as realm
use Rattle.ws_steps.specs.Calls.{begin}
use Rattle.ws_laws.proofs.Lists.{Each}

abbrev pub IsNoMake : Effect → Type 0
IsNoMake (Byte j (own.MakeRequest q)) = ⊥
IsNoMake _ = Unit {0}

abbrev pub asks : Call → Bool
asks (c.Request i) = true
asks _ = false

abbrev AreNoMake : List Effect → Type 0
AreNoMake es = Each IsNoMake es

pub begin-no_make : (call : Call) (s : realm.Slots) → asks call ≡ false → Each IsNoMake (begin call s).done.caused
unfolding begin
begin-no_make (c.MakeReadable mark size start) s n = grind arith
begin-no_make (c.MakeBytes mark auto start) s n = grind arith
begin-no_make (c.MakeWritable mark size start) s n = grind arith
begin-no_make (c.MakeTransform kind m r start) s n = grind arith
begin-no_make (c.GetReader i) s n = grind arith
begin-no_make (c.GetByob i) s n = grind arith
begin-no_make (c.GetWriter i) s n = grind arith
begin-no_make (c.Tee i) s n = grind arith
begin-no_make (c.Cancel i reason) s n = grind arith
begin-no_make (c.CancelBy l reason) s n = grind arith
begin-no_make (c.Read l) s n = grind arith
begin-no_make (c.ReadInto l room element least) s n = into-either (λ b. AreNoMake b.done.caused) room element least s _ (λ f. _) (λ i. _) (lock_at l s)
begin-no_make (c.Write l v) s n = grind arith
begin-no_make (c.Close i) s n = grind arith
begin-no_make (c.CloseBy l) s n = grind arith
begin-no_make (c.Abort i reason) s n = grind arith
begin-no_make (c.AbortBy l reason) s n = grind arith
begin-no_make (c.Closed l) s n = grind arith
begin-no_make (c.Ready l) s n = grind arith
begin-no_make (c.Release l) s n = grind arith
begin-no_make (c.Enqueue i v) s n = grind arith
begin-no_make (c.Finish i) s n = grind arith
begin-no_make (c.Fail i reason) s n = grind arith
begin-no_make (c.Terminate i) s n = grind arith
begin-no_make (c.Request i) s n = cc
begin-no_make (c.Respond q b) s n = grind arith
begin-no_make (c.Desired i) s n = grind arith
begin-no_make (c.DesiredBy l) s n = grind arith
begin-no_make (c.Pipe source dest prevent signal) s n = grind arith
begin-no_make c.MakeSignal s n = grind arith
begin-no_make (c.Trigger a reason) s n = grind arith
begin-no_make (c.Send i) s n = grind arith
begin-no_make (c.Open side) s n = grind arith
begin-no_make (c.Deliver p m) s n = grind arith
begin-no_make (c.Settle h answer) s n = grind arith
begin-no_make (c.State i) s n = grind arith
begin-no_make c.Step s n = grind arith
