-- What is said of a capture that is damaged (the words are this project's choice).
use Rattle.std.specs.Prelude.{ℕ, List, ◌++◌, codes, decimal}
use Rattle.ripng_capture.specs.declared.damage.CaptureError.{CaptureError}
use Rattle.ripng_capture.specs.declared.damage.CaptureError.TheVariants.{OutOfMemory, Damaged}
use Rattle.ripng_capture.specs.declared.damage.Damage.{Damage}
use Rattle.ripng_capture.specs.declared.damage.Damage.TheVariants.{NotACapture, BadVersion, BadByteOrder, Cut, BadLength, LengthsDiffer, NoSuchInterface, TooFine}

-- what is wrong
abbrev pub damage_text : Damage → List ℕ
damage_text NotACapture = codes "it is no file of pcap or pcapng"
damage_text BadVersion = codes "its version is not known"
damage_text BadByteOrder = codes "the byte order of a section is not known"
damage_text Cut = codes "it ends before what begins here does"
damage_text BadLength = codes "the length of a block is wrong"
damage_text LengthsDiffer = codes "the two lengths of a block differ"
damage_text NoSuchInterface = codes "a packet is of an interface that is not described"
damage_text TooFine = codes "the times of an interface are finer than nanoseconds"

-- why a capture is read no further, with the place
abbrev pub capture_error_text : CaptureError → List ℕ
capture_error_text OutOfMemory = codes "out of memory"
capture_error_text (Damaged at damage) = codes "damaged at byte " ++ (decimal at ++ (codes ": " ++ damage_text damage))
