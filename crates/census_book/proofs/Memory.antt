-- What holds after an error, or after none.
use Rattle.std.proofs.Common.{◌≡◌, false, Result, Ok, Err, OnOk, OnErr, is_err, sym, subst}

-- what holds after no error
pub ok_then : {A E P : Type 0} (r : Result A E) → is_err r ≡ false → OnOk r P → P
ok_then (Ok value) ok h = h
ok_then (Err error) ok h = absurd (cc)

-- what follows from what holds after no error holds after none
pub on_ok_then : {A E P Q : Type 0} (r : Result A E) → (P → Q) → OnOk r P → OnOk r Q
on_ok_then (Ok value) f h = f h
on_ok_then (Err error) f h = tt

-- what holds for the value that is made if there is no error, and for the value before
pub made_or_left : {A E S : Type 0} (P : S → Type 0) (r : Result A E) {new made old : S} → OnOk r (new ≡ made) → OnErr r (new ≡ old) → P made → P old → P new
made_or_left P (Ok value) is _ one other = subst P (sym is) one
made_or_left P (Err error) _ is one other = subst P (sym is) other
