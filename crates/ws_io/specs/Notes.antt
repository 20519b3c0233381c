-- What a status is to the caller of the program: its number, and its text on the notes.
use Rattle.std.specs.Prelude.{ℕ, List, [], ◌++◌, codes, decimal}
use Rattle.ws_io.specs.declared.status.Status.{Status}
use Rattle.ws_io.specs.declared.status.Status.TheVariants.{Done, Stage, Usage, Plan, ReadFault, WriteFault, Aborted, NoMemory, Script, LoadFault, TooMuch}

abbrev pub number_of : Status → ℕ
number_of Done = 0
number_of (Stage index code place) = 1
number_of Usage = 2
number_of (Plan n) = 3
number_of ReadFault = 4
number_of WriteFault = 5
number_of Aborted = 6
number_of NoMemory = 7
number_of (Script n) = 8
number_of LoadFault = 9
number_of TooMuch = 10

-- words and a number in decimal
abbrev pub numbered : List ℕ → ℕ → List ℕ
numbered words number = words ++ decimal number

abbrev pub text_of : Status → List ℕ
text_of Done = []
text_of (Stage index code place) =
    numbered (codes "stage ") index ++ (numbered (codes " code ") code ++ (numbered (codes " place ") place ++ codes "\n"))
text_of Usage = codes "usage: streams run [[--trace] FILE] | script | check FILE | gen N SEED FILE\n"
text_of (Plan n) = numbered (codes "plan refused ") n ++ codes "\n"
text_of ReadFault = codes "read fault\n"
text_of WriteFault = codes "write fault\n"
text_of Aborted = codes "aborted\n"
text_of NoMemory = codes "no memory\n"
text_of (Script n) = numbered (codes "script refused ") n ++ codes "\n"
text_of LoadFault = codes "load fault\n"
text_of TooMuch = codes "input too long\n"
