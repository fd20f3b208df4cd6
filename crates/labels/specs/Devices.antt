-- What the program's devices stand for.
use Rattle.labels.specs.declared.stop.Devices.{Devices as DevicesGiven}
use Rattle.labels.specs.Stops.{Devices}

-- The names of the devices, and why they failed, as the program keeps them.
abbrev pub devices_of : DevicesGiven → Devices
devices_of devices = record {
  source = devices.source.now;
  not_read = devices.not_read;
  target = devices.target.now;
  not_written = devices.not_written;
}
